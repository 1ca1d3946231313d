-- By the new size: a root of few slots, fewer levels, or more of them; each entry stays at its block.
use Rattle.std.proofs.Common.{◌<◌, sym, subst, ap, arith, ◌∙◌, ℕ}
use Rattle.std.specs.Prelude.{IsSome}
use Rattle.cc_vacb.specs.Index.{Index, entry_at, entry_count, StartsBelow}
use Rattle.cc_vacb.proofs.Kept.{Stays, small_at, small_flat, flat_top, width_least, resized, resized_entry, resized_count, lowered_width, no_higher, wide_width}
use Rattle.cc_vacb.proofs.index.ViewIndex.resize.Goals as goal

pub flatten-requires-clause-small : goal.flatten-requires-clause-small
flatten-requires-clause-small c =
    let x = c.self.inside in
    let s : Stays x.size c.args.size x.blocks.items = subst (λ (i : Index). c.args.size < i.size → (n : ℕ) → IsSome (entry_at i n) → StartsBelow n c.args.size) (sym c.self.view_is) c.requires in
    small_flat x.size c.top_for-top.result c.args.size c.width_for-width.result x.blocks.items c.top_for-top.ensures.levels c.width_for-width.ensures c.if-width-lt128.true c.self.invariant s

pub flatten-requires-clause-few : goal.flatten-requires-clause-few
flatten-requires-clause-few c =
    let f = flat_top c.args.size c.top_for-to.result c.width_for-width.result c.top_for-to.ensures.levels c.width_for-width.ensures c.if-width-lt128.true in
    width_least c.self.inside.size c.width_for-width.result c.self.inside.blocks.items c.self.invariant f.1

pub invariant_of-self : goal.invariant_of-self
invariant_of-self c =
    let s : Stays c.self.inside.size c.args.size c.self.inside.blocks.items = subst (λ (i : Index). c.args.size < i.size → (n : ℕ) → IsSome (entry_at i n) → StartsBelow n c.args.size) (sym c.self.view_is) c.requires in
    let f = flat_top c.args.size c.top_for-to.result c.width_for-width.result c.top_for-to.ensures.levels c.width_for-width.ensures c.if-width-lt128.true in
    let d = c.flatten.ensures.changed in
    resized c.self.inside.size c.top_for-top.result c.args.size 0 c.self.inside.blocks.items c.flatten.new.blocks.items c.self.invariant c.top_for-top.ensures.levels s d (omega (arith, f.0, c.top_for-to.ensures.levels)) c.ranges.size.fits (omega (arith, d.len, c.self.invariant.numbers)) (c.flatten.ensures.width ∙ c.width_for-width.ensures)

pub returns-then-width-lt128-clause-entries : goal.returns-then-width-lt128-clause-entries
returns-then-width-lt128-clause-entries c = λ n.
    let f = flat_top c.args.size c.top_for-to.result c.width_for-width.result c.top_for-to.ensures.levels c.width_for-width.ensures c.if-width-lt128.true in
    resized_entry c.self.inside.size c.top_for-top.result c.args.size 0 c.self.inside.blocks.items c.flatten.new.blocks.items c.flatten.ensures.changed c.top_for-top.ensures.levels (omega (arith, f.0, c.top_for-to.ensures.levels)) n
    ∙ ap (λ (i : Index). entry_at i n) c.self.view_is

pub returns-then-width-lt128-clause-count : goal.returns-then-width-lt128-clause-count
returns-then-width-lt128-clause-count c =
    resized_count _ _ c.self.inside.blocks.items c.flatten.new.blocks.items c.flatten.ensures.changed ∙ ap (λ (i : Index). entry_count i) c.self.view_is

pub lower-requires-clause-order : goal.lower-requires-clause-order
lower-requires-clause-order c = no_higher c.args.size c.self.inside.size c.top_for-to.result c.top_for-top.result c.if-size-self.true c.self.invariant.fits c.top_for-to.ensures.levels c.top_for-top.ensures.levels

pub grow-requires-clause-order : goal.grow-requires-clause-order
grow-requires-clause-order c = no_higher c.self.inside.size c.args.size c.top_for-top.result c.top_for-to.result (omega (arith, c.if-size-self.false)) c.ranges.size.fits c.top_for-top.ensures.levels c.top_for-to.ensures.levels

pub lower-requires-clause-small : goal.lower-requires-clause-small
lower-requires-clause-small c =
    let x = c.self.inside in
    let s : Stays x.size c.args.size x.blocks.items = subst (λ (i : Index). c.args.size < i.size → (n : ℕ) → IsSome (entry_at i n) → StartsBelow n c.args.size) (sym c.self.view_is) c.requires in
    small_at x.size c.top_for-top.result c.args.size c.top_for-to.result x.blocks.items c.top_for-top.ensures.levels c.top_for-to.ensures.levels c.self.invariant c.ranges.size.fits s

pub invariant_of-self-then-size-self : goal.invariant_of-self-then-size-self
invariant_of-self-then-size-self c =
    let s : Stays c.self.inside.size c.args.size c.self.inside.blocks.items = subst (λ (i : Index). c.args.size < i.size → (n : ℕ) → IsSome (entry_at i n) → StartsBelow n c.args.size) (sym c.self.view_is) c.requires in
    let d = c.lower.ensures.changed in
    let w = lowered_width c.self.inside.size c.top_for-top.result c.args.size c.top_for-to.result c.width_for-width.result c.self.inside.blocks.items c.lower.new.blocks.items c.self.invariant d c.if-size-self.true c.width_for-width.ensures c.if-width-lt128.false c.lower.ensures.wide in
    resized c.self.inside.size c.top_for-top.result c.args.size c.top_for-to.result c.self.inside.blocks.items c.lower.new.blocks.items c.self.invariant c.top_for-top.ensures.levels s d c.top_for-to.ensures.levels c.ranges.size.fits (omega (arith, d.len, c.self.invariant.numbers, no_higher c.args.size c.self.inside.size c.top_for-to.result c.top_for-top.result c.if-size-self.true c.self.invariant.fits c.top_for-to.ensures.levels c.top_for-top.ensures.levels)) w

pub returns-then-size-self-clause-count : goal.returns-then-size-self-clause-count
returns-then-size-self-clause-count c =
    resized_count _ _ c.self.inside.blocks.items c.lower.new.blocks.items c.lower.ensures.changed ∙ ap (λ (i : Index). entry_count i) c.self.view_is

pub invariant_of-self-2 : goal.invariant_of-self-2
invariant_of-self-2 c =
    let s : Stays c.self.inside.size c.args.size c.self.inside.blocks.items = subst (λ (i : Index). c.args.size < i.size → (n : ℕ) → IsSome (entry_at i n) → StartsBelow n c.args.size) (sym c.self.view_is) c.requires in
    let d = c.in_ok-grow.ensures.ok in
    let w = wide_width c.args.size c.width_for-width.result _ c.width_for-width.ensures c.if-width-lt128.false c.in_ok-grow.ensures.wide in
    resized c.self.inside.size c.top_for-top.result c.args.size c.top_for-to.result c.self.inside.blocks.items c.grow.new.blocks.items c.self.invariant c.top_for-top.ensures.levels s d c.top_for-to.ensures.levels c.ranges.size.fits (omega (arith, d.len, c.self.inside.blocks.ok.0, c.len.ensures, c.if-len-gt-MAX_BLOCKS.false, c.top_for-to.ensures.bound)) w

pub returns-clause-count : goal.returns-clause-count
returns-clause-count c =
    resized_count _ _ c.self.inside.blocks.items c.grow.new.blocks.items c.in_ok-grow.ensures.ok ∙ ap (λ (i : Index). entry_count i) c.self.view_is
