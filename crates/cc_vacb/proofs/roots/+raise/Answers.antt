-- At the height asked for the root is widened; else a new root leads to the old one by its first slot.
use Rattle.std.proofs.Common.{◌≡◌, ◌<◌, ◌+◌, ◌-◌, sym, subst, ap, arith, ◌∙◌, List, length, set}
use Rattle.std.proofs.lemmas.List.{get_or_read}
use Rattle.cc_vacb.specs.Block.{Block, no_block, blank_block}
use Rattle.cc_vacb.specs.Index.{block_in}
use Rattle.cc_vacb.specs.Tree.{ChangesTop}
use Rattle.cc_vacb.proofs.Root.{widened}
use Rattle.cc_vacb.proofs.Raise.{raise_step, raise_width}
use Rattle.cc_vacb.proofs.roots.+raise.Goals as goal

pub returns-then-to-top-clause-ok : goal.returns-then-to-top-clause-ok
returns-then-to-top-clause-ok t c =
    let items = c.reserve.ensures.items in
    let some : 0 < length c.reserve.new.self.items = omega (arith, ap (λ (x : List Block). length x) items, c.requires.tree.some) in
    let r = get_or_read c.reserve.new.self.items 0 _ some c.index_mut.ensures.value no_block ∙ ap (λ (x : List Block). block_in x 0) items in
    let w = widened c.args.top c.args.blocks.now.items c.reserve.new.self.items _ _ c.requires.tree c.requires.filled items r c.in_ok-widen.ensures.ok in
    subst (λ h. ChangesTop c.args.top h c.args.blocks.now.items (set c.reserve.new.self.items 0 c.widen.new.self)) (sym c.if-to-top.true) w.0

pub returns-then-to-top-clause-wide : goal.returns-then-to-top-clause-wide
returns-then-to-top-clause-wide t c =
    let items = c.reserve.ensures.items in
    let some : 0 < length c.reserve.new.self.items = omega (arith, ap (λ (x : List Block). length x) items, c.requires.tree.some) in
    let r = get_or_read c.reserve.new.self.items 0 _ some c.index_mut.ensures.value no_block ∙ ap (λ (x : List Block). block_in x 0) items in
    (widened c.args.top c.args.blocks.now.items c.reserve.new.self.items _ _ c.requires.tree c.requires.filled items r c.in_ok-widen.ensures.ok).1

pub put_slot-requires-clause-slot_in : goal.put_slot-requires-clause-slot_in
put_slot-requires-clause-slot_in t c =
    let to : c.args.to ≡ c.args.to - 1 + 1 = omega (arith, c.if-to-top.false, c.requires.order) in
    raise_width c.args.top (c.args.to - 1) c.args.blocks.now.items c.raise.new.blocks.items _ _ _ c.in_ok-raise.ensures.ok (c.replace-root.ensures.after ∙ c.in_ok-block.ensures ∙ ap (λ h. blank_block h 0 128) to) c.push_reserved.ensures.items

pub returns-clause-ok : goal.returns-clause-ok
returns-clause-ok t c =
    let mid = c.raise.new.blocks.items in
    let r = get_or_read mid 0 _ c.in_ok-raise.ensures.ok.tree.some c.index_mut-2.ensures.value no_block in
    raise_step c.args.top c.args.to _ c.args.blocks.now.items mid _ _ _ _ (omega (arith, c.if-to-top.false, c.requires.order)) c.in_ok-raise.ensures.ok c.in_ok-raise.ensures.wide c.requires.used (c.replace-root.ensures.after ∙ c.in_ok-block.ensures) (c.replace-root.ensures.value ∙ r) c.push_reserved.ensures.items c.put_slot.ensures.put (c.len-node.ensures ∙ c.raise.new.blocks.ok.0)

pub returns-clause-wide : goal.returns-clause-wide
returns-clause-wide t c =
    let mid = c.raise.new.blocks.items in
    let r = get_or_read mid 0 _ c.in_ok-raise.ensures.ok.tree.some c.index_mut-2.ensures.value no_block in
    (raise_step c.args.top c.args.to _ c.args.blocks.now.items mid _ _ _ _ (omega (arith, c.if-to-top.false, c.requires.order)) c.in_ok-raise.ensures.ok c.in_ok-raise.ensures.wide c.requires.used (c.replace-root.ensures.after ∙ c.in_ok-block.ensures) (c.replace-root.ensures.value ∙ r) c.push_reserved.ensures.items c.put_slot.ensures.put (c.len-node.ensures ∙ c.raise.new.blocks.ok.0)).tree.deep (omega (arith, c.if-to-top.false, c.requires.order))
