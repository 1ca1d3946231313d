-- An empty root takes the height that is asked for, and all of its slots; there is no entry to move.
use Rattle.std.proofs.Common.{◌≡◌, sym, ap, arith, ◌∙◌, set, eqb-true}
use Rattle.std.proofs.lemmas.List.{get_or_read, length-set}
use Rattle.cc_vacb.specs.Block.{no_block, used_slots}
use Rattle.cc_vacb.proofs.Root.{regrown}
use Rattle.cc_vacb.proofs.roots.grow.Goals as goal

pub returns-clause-ok : goal.returns-clause-ok
returns-clause-ok c =
    let bs = c.args.blocks.now.items in
    let some = c.requires.tree.some in
    let i = get_or_read bs 0 _ some c.index.ensures no_block in
    let r = get_or_read bs 0 _ some c.index_mut.ensures.value no_block in
    let u : used_slots c.index_mut.result.now ≡ 0 = ap used_slots (r ∙ sym i) ∙ eqb-true (used_slots c.index.result.now) 0 (sym c.if-not-is_empty.ensures) in
    let q = get_or_read (set bs 0 c.widen.new.self) 0 _ (omega (arith, some, length-set bs 0 c.widen.new.self)) c.index_mut-2.ensures.value no_block in
    (regrown c.args.top c.args.to bs _ c.widen.new.self _ c.set_height.new.self c.requires.tree c.requires.filled u r c.in_ok-widen.ensures.ok q c.set_height.ensures c.requires.order).0

pub returns-clause-wide : goal.returns-clause-wide
returns-clause-wide c =
    let bs = c.args.blocks.now.items in
    let some = c.requires.tree.some in
    let i = get_or_read bs 0 _ some c.index.ensures no_block in
    let r = get_or_read bs 0 _ some c.index_mut.ensures.value no_block in
    let u : used_slots c.index_mut.result.now ≡ 0 = ap used_slots (r ∙ sym i) ∙ eqb-true (used_slots c.index.result.now) 0 (sym c.if-not-is_empty.ensures) in
    let q = get_or_read (set bs 0 c.widen.new.self) 0 _ (omega (arith, some, length-set bs 0 c.widen.new.self)) c.index_mut-2.ensures.value no_block in
    (regrown c.args.top c.args.to bs _ c.widen.new.self _ c.set_height.new.self c.requires.tree c.requires.filled u r c.in_ok-widen.ensures.ok q c.set_height.ensures c.requires.order).1
