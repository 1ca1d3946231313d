use Rattle.std.proofs.Common.{List, ◌∙◌, ap, sym, subst, nat_eq, nat_lt, length, arith}
use Rattle.std.proofs.lemmas.List.{length-map}
use Rattle.std.specs.List.{IsDistinct}
use Rattle.cc_model.specs.Numbers.{is_among}
use Rattle.cc_holds.specs.Blocks.{holds_at, HasHeldBlocks}
use Rattle.cc_holds.specs.declared.block_rows.BlockRow.{BlockRow}
use Rattle.cc_holds.proofs.BlockNumbers.{added-none, has-blocks, distinct-blocks, count-blocks}
use Rattle.cc_holds.proofs.held_blocks.HeldBlocks.all.Goals as goal

pub returns-clause-distinct : goal.returns-clause-distinct
returns-clause-distinct c =
    subst (IsDistinct nat_eq) (sym (added-none c.in_ok-add_rows.ensures c.new-blocks.ensures.items c.deref.ensures.value))
    (distinct-blocks c.self.inside.rows.items c.self.invariant)

pub returns-clause-same : goal.returns-clause-same
returns-clause-same c = λ b.
    ap (is_among b) (added-none c.in_ok-add_rows.ensures c.new-blocks.ensures.items c.deref.ensures.value)
    ∙ (has-blocks c.self.inside.rows.items c.self.invariant b
    ∙ ap (λ (rows : List BlockRow). nat_lt 0 (holds_at b rows)) c.self.view_is)

pub returns-clause-counted : goal.returns-clause-counted
returns-clause-counted c = λ bs has.
    let listed = ap length (added-none c.in_ok-add_rows.ensures c.new-blocks.ensures.items c.deref.ensures.value) in
    let counted = count-blocks c.self.inside.rows.items bs c.self.invariant (subst (λ rows. HasHeldBlocks rows bs) (sym c.self.view_is) has) in
    omega (arith, listed, length-map c.self.inside.rows.items (λ (row : BlockRow). row.block), counted, c.add_rows.new.blocks.ok.0)
