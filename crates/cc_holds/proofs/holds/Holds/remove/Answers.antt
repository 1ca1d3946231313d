-- The row is the one at the place that was found; where that lies past the last row, no hold has the id.
use Rattle.std.proofs.Common.{◌≡◌, ◌≤◌, ◌<◌, Some, List, length, ap, ◌∙◌, sym, subst, arith}
use Rattle.std.specs.List.{position_or_len}
use Rattle.std.specs.Option.{option_map}
use Rattle.cc_entry.specs.Pages.{blocks_of}
use Rattle.cc_holds.specs.Holds.{has_id, row_range}
use Rattle.cc_holds.specs.declared.holds.KeptHold.{KeptHold}
use Rattle.cc_holds.proofs.Changes.{hold-absent, hold-present}
use Rattle.cc_holds.proofs.Order.{InOrder, InOrder-remove}
use Rattle.cc_holds.proofs.HoldBlocks.{Count, count-held, count-removed}
use Rattle.cc_holds.proofs.KeptBlocks.{range-of}
use Rattle.cc_holds.proofs.holds.Holds.remove.Goals as goal

pub returns-then-place-len-clause-row : goal.returns-then-place-len-clause-row
returns-then-place-len-clause-row c =
    let at : c.place_of-place.result ≡ position_or_len (has_id c.args.id) c.self.inside.holds.items =
    c.place_of-place.ensures.value ∙ ap (position_or_len (has_id c.args.id)) c.deref.ensures.value in
    let past : length c.self.inside.holds.items ≤ c.place_of-place.result = omega (arith, ap length c.deref.ensures.value) in
    rw (← c.self.view_is) (sym (ap (option_map (λ (h : KeptHold). h.row)) (hold-absent c.self.inside.holds.items c.args.id c.place_of-place.result at past)))

pub returns-clause-row : goal.returns-clause-row
returns-clause-row c =
    let at : c.place_of-place.result ≡ position_or_len (has_id c.args.id) c.self.inside.holds.items =
    c.place_of-place.ensures.value ∙ ap (position_or_len (has_id c.args.id)) c.deref.ensures.value in
    let within : c.place_of-place.result < length c.self.inside.holds.items = omega (arith, ap length c.deref.ensures.value) in
    let found = hold-present c.self.inside.holds.items c.args.id c.place_of-place.result c.remove-row.result at within in
    rw (← c.self.view_is) (ap (λ (h : KeptHold). Some h.row) c.remove-row.ensures.value ∙ sym (ap (option_map (λ (h : KeptHold). h.row)) found))

pub remove-requires-clause-held : goal.remove-requires-clause-held
remove-requires-clause-held c = λ b.
    let within : c.place_of-place.result < length c.self.inside.holds.items = omega (arith, ap length c.deref.ensures.value) in
    count-held c.self.inside.holds.items c.self.inside.blocks c.place_of-place.result c.block_range-first.result.0 c.block_range-first.result.1 b c.remove-row.result within c.remove-row.ensures.value c.block_range-first.ensures.in_order
    (c.block_range-first.ensures.blocks ∙ ap blocks_of (range-of (row_range c.remove-row.result.row) c.from.ensures c.end_of.ensures)) c.self.invariant.counts

pub invariant_of-self : goal.invariant_of-self
invariant_of-self c =
    let within : c.place_of-place.result < length c.self.inside.holds.items = omega (arith, ap length c.deref.ensures.value) in
    record {
      in_order = subst InOrder (sym c.remove-row.ensures.items) (InOrder-remove c.self.inside.holds.items c.place_of-place.result within c.self.invariant.in_order);
      counts =
          subst (λ (holds : List KeptHold). Count holds c.remove.new.self) (sym c.remove-row.ensures.items)
          (count-removed c.self.inside.holds.items c.self.inside.blocks c.remove.new.self c.place_of-place.result c.block_range-first.result.0 c.block_range-first.result.1 c.remove-row.result within c.remove-row.ensures.value c.block_range-first.ensures.in_order
          (c.block_range-first.ensures.blocks ∙ ap blocks_of (range-of (row_range c.remove-row.result.row) c.from.ensures c.end_of.ensures)) c.self.invariant.counts c.remove.ensures);
    }
