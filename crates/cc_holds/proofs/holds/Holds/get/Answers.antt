-- The row is that of the hold at the place that was found; where that lies past the last hold, none has the id.
use Rattle.std.proofs.Common.{◌≡◌, ◌≤◌, ◌<◌, Some, length, ap, ◌∙◌, sym, arith}
use Rattle.std.specs.List.{position_or_len}
use Rattle.std.specs.Option.{option_map}
use Rattle.cc_holds.specs.Holds.{has_id}
use Rattle.cc_holds.specs.declared.holds.KeptHold.{KeptHold}
use Rattle.cc_holds.proofs.Changes.{hold-absent, hold-present}
use Rattle.cc_holds.proofs.holds.Holds.get.Goals as goal

pub returns-then-place-len : goal.returns-then-place-len
returns-then-place-len c =
    let at : c.place_of-place.result ≡ position_or_len (has_id c.args.id) c.self.inside.holds.items =
    c.place_of-place.ensures.value ∙ ap (position_or_len (has_id c.args.id)) c.deref.ensures.value in
    let past : length c.self.inside.holds.items ≤ c.place_of-place.result = omega (arith, ap length c.deref.ensures.value) in
    rw (← c.self.view_is) (sym (ap (option_map (λ (h : KeptHold). h.row)) (hold-absent c.self.inside.holds.items c.args.id c.place_of-place.result at past)))

pub returns : goal.returns
returns c =
    let at : c.place_of-place.result ≡ position_or_len (has_id c.args.id) c.self.inside.holds.items =
    c.place_of-place.ensures.value ∙ ap (position_or_len (has_id c.args.id)) c.deref.ensures.value in
    let within : c.place_of-place.result < length c.self.inside.holds.items = omega (arith, ap length c.deref.ensures.value) in
    let found = hold-present c.self.inside.holds.items c.args.id c.place_of-place.result c.index.result.now at within in
    rw (← c.self.view_is) (ap (λ (h : KeptHold). Some h.row) c.index.ensures ∙ sym (ap (option_map (λ (h : KeptHold). h.row)) found))
