use Rattle.std.proofs.Common.{Some, sym, ap, ◌∙◌, subst, length, ◌<◌, ◌∷◌}
use Rattle.cc_model.specs.Turns.{Device}
use Rattle.cc_turns.specs.Desk.{tells_of}
use Rattle.cc_turns.specs.Held.{untold_of_disk}
use Rattle.cc_turns.proofs.HeldSteps.{disk_stands, disk_told}
use Rattle.cc_board.specs.View.{view_standing}
use Rattle.cc_board.specs.Plays.{device_at}
use Rattle.cc_board.proofs.Seating.{device-word, take-allowed, took-turn, took-device}
use Rattle.cc_board.proofs.seated.SeatedTurns.take_device.Goals as goal

pub take-place-requires-clause-may : goal.take-place-requires-clause-may
take-place-requires-clause-may g c =
    take-allowed _ c.self.inside.board.now.begun device_at (Device c.args.stream) c.from-slot.result c.self.inside.seat.id c.self.inside.seat.me (c.from-slot.ensures ∙ c.number.ensures.same)
    c.self.invariant.1 c.self.invariant.3
    (subst (λ n. c.args.stream < n) (ap (λ (s : _). length s.knows.disks) (sym c.self.view_is) ∙ ap (λ b. length b.disks) c.self.invariant.1) c.requires.known)
    (ap (λ s. s.knows.device) c.self.view_is ∙ ap (λ h. h.device) c.requires.free)
    (device-word c.self.inside.board.now.begun c.args.stream)

pub returns-clause-stands : goal.returns-clause-stands
returns-clause-stands g c =
    let tells = tells_of g.D.Told.told g.D.Told.faults g.L.LogFile.told g.L.LogFile.faults g.Q.PostRoutine.posted in
    let begun = c.self.inside.board.now.begun in
    let took = took-turn tells device_at begun (Device c.args.stream) c.from-slot.result c.self.inside.seat.me
    (c.take-place.new.seat.me.0, (c.from-slot.result, c.take-place.result) ∷ c.self.inside.seat.me.1)
    c.self.invariant.1 (c.from-slot.ensures ∙ c.number.ensures.same) (device-word begun c.args.stream) c.take-place.ensures.told in
    disk_stands g.D.Told.told g.D.Told.faults _ _ c.args.stream c.in-Some-Device.disk c.new.result c.new.ensures.disk
    (c.new.ensures.untold ∙ ap (λ seat. untold_of_disk (view_standing tells seat.me.0 0) c.args.stream (g.D.Told.faults c.in-Some-Device.disk)) c.at_take_of.ensures)
    (took-device tells c.args.stream c.from-slot.result c.in-Some-Device.disk c.self.inside.seat.me _ took
    (ap (λ place. (c.from-slot.result, place) ∷ c.self.inside.seat.me.1) (c.in-Some-Device.is ∙ ap (λ place. Some place) c.in-Some-Device.field-0-is)))

pub returns-clause-counted : goal.returns-clause-counted
returns-clause-counted g c =
    let tells = tells_of g.D.Told.told g.D.Told.faults g.L.LogFile.told g.L.LogFile.faults g.Q.PostRoutine.posted in
    let begun = c.self.inside.board.now.begun in
    let took = took-turn tells device_at begun (Device c.args.stream) c.from-slot.result c.self.inside.seat.me
    (c.take-place.new.seat.me.0, (c.from-slot.result, c.take-place.result) ∷ c.self.inside.seat.me.1)
    c.self.invariant.1 (c.from-slot.ensures ∙ c.number.ensures.same) (device-word begun c.args.stream) c.take-place.ensures.told in
    disk_told g.D.Told.told g.D.Told.faults _ _ c.args.stream c.in-Some-Device.disk c.new.result c.new.ensures.disk
    (c.new.ensures.untold ∙ ap (λ seat. untold_of_disk (view_standing tells seat.me.0 0) c.args.stream (g.D.Told.faults c.in-Some-Device.disk)) c.at_take_of.ensures)
    (took-device tells c.args.stream c.from-slot.result c.in-Some-Device.disk c.self.inside.seat.me _ took
    (ap (λ place. (c.from-slot.result, place) ∷ c.self.inside.seat.me.1) (c.in-Some-Device.is ∙ ap (λ place. Some place) c.in-Some-Device.field-0-is)))
