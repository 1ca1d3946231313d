-- The rows before the range, the range, and the rows behind it.
use Rattle.std.proofs.Common.{List, ◌||◌, ◌-◌, ◌∙◌, ap, sym, subst, nat_lt, length, take, drop, arith}
use Rattle.std.proofs.lemmas.Slice.{between_to_end}
use Rattle.std.specs.List.{range_with_len}
use Rattle.cc_model.specs.Numbers.{is_among}
use Rattle.cc_holds.specs.Blocks.{holds_at, HasHeldBlocks, IsPlaceOf}
use Rattle.cc_holds.specs.declared.block_rows.BlockRow.{BlockRow}
use Rattle.cc_holds.proofs.BlockNumbers.{added-none, added-three, among-with, length-with, count-with}
use Rattle.cc_holds.proofs.held_blocks.HeldBlocks.with.Goals as goal

pub returns-clause-same : goal.returns-clause-same
returns-clause-same c = λ b.
    ap (is_among b) (added-three (take c.place_of-before.result c.self.inside.rows.items) (drop c.place_of-after.result c.self.inside.rows.items) (range_with_len c.args.first (c.args.end - c.args.first))
    (added-none c.in_ok-add_rows.ensures c.new-blocks.ensures.items (ap (take c.place_of-before.result) c.deref-3.ensures.value)) c.in_ok-add_range.ensures c.in_ok-add_rows-2.ensures
    (between_to_end _ c.place_of-after.result _ (omega arith) ∙ ap (drop c.place_of-after.result) c.deref-4.ensures.value))
    ∙ (among-with c.self.inside.rows.items c.self.invariant c.args.first c.args.end c.place_of-before.result c.place_of-after.result c.requires.in_order
    (subst (λ rows. IsPlaceOf c.args.first rows c.place_of-before.result) c.deref.ensures.value c.place_of-before.ensures)
    (subst (λ rows. IsPlaceOf c.args.end rows c.place_of-after.result) c.deref-2.ensures.value c.place_of-after.ensures) b
    ∙ ap (λ (rows : List BlockRow). nat_lt 0 (holds_at b rows) || is_among b (range_with_len c.args.first (c.args.end - c.args.first))) c.self.view_is)

pub returns-clause-counted : goal.returns-clause-counted
returns-clause-counted c = λ bs has.
    let listed = ap length (added-three (take c.place_of-before.result c.self.inside.rows.items) (drop c.place_of-after.result c.self.inside.rows.items) (range_with_len c.args.first (c.args.end - c.args.first))
    (added-none c.in_ok-add_rows.ensures c.new-blocks.ensures.items (ap (take c.place_of-before.result) c.deref-3.ensures.value)) c.in_ok-add_range.ensures c.in_ok-add_rows-2.ensures
    (between_to_end _ c.place_of-after.result _ (omega arith) ∙ ap (drop c.place_of-after.result) c.deref-4.ensures.value)) in
    let long = length-with c.self.inside.rows.items c.self.invariant c.args.first c.args.end c.place_of-before.result c.place_of-after.result c.requires.in_order
    (subst (λ rows. IsPlaceOf c.args.first rows c.place_of-before.result) c.deref.ensures.value c.place_of-before.ensures)
    (subst (λ rows. IsPlaceOf c.args.end rows c.place_of-after.result) c.deref-2.ensures.value c.place_of-after.ensures) in
    let counted = count-with c.self.inside.rows.items c.self.invariant c.args.first c.args.end c.place_of-before.result c.place_of-after.result c.requires.in_order
    (subst (λ rows. IsPlaceOf c.args.first rows c.place_of-before.result) c.deref.ensures.value c.place_of-before.ensures)
    (subst (λ rows. IsPlaceOf c.args.end rows c.place_of-after.result) c.deref-2.ensures.value c.place_of-after.ensures) bs (subst (λ rows. HasHeldBlocks rows bs) (sym c.self.view_is) has) in
    omega (arith, listed, long, counted, c.add_rows-2.new.blocks.ok.0)
