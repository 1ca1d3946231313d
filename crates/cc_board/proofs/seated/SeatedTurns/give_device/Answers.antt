use Rattle.std.proofs.Common.{Some, refl, ap, ◌∙◌, ◌≡◌}
use Rattle.atomic_table.specs.Table.{rest}
use Rattle.cc_model.specs.Turns.{Device}
use Rattle.cc_turns.specs.Desk.{tells_of}
use Rattle.cc_turns.specs.declared.slots.Place.TheVariants as place
use Rattle.cc_board.specs.Plays.{device_at}
use Rattle.cc_turns.proofs.HeldSteps.{disk_back}
use Rattle.cc_board.proofs.Seating.{device-word, give-allowed, holds-the, fits-device}
use Rattle.cc_board.proofs.seated.SeatedTurns.give_device.Goals as goal

pub give-requires-clause-allowed : goal.give-requires-clause-allowed
give-requires-clause-allowed g c =
    let begun = c.self.inside.board.now.begun in
    let v = c.self.inside.seat.me.0 in
    let held : v.device ≡ Some c.args.stream = ap (λ s. s.knows.device) c.self.view_is ∙ ap (λ h. h.device) c.requires.held in
    give-allowed (tells_of g.D.Told.told g.D.Told.faults g.L.LogFile.told g.L.LogFile.faults g.Q.PostRoutine.posted) begun device_at (Device c.args.stream) (place.Device c.into_disk.result) c.from-slot.result 0 c.self.inside.seat.id v (rest c.self.inside.seat.me.1)
    (c.from-slot.ensures ∙ c.number.ensures.same) c.self.invariant.1 c.self.invariant.3 (c.self.invariant.7.device c.args.stream held) refl (holds-the c.args.stream v.device held)
    (fits-device (tells_of g.D.Told.told g.D.Told.faults g.L.LogFile.told g.L.LogFile.faults g.Q.PostRoutine.posted) begun v c.args.self.now.knows c.args.stream c.into_disk.result (ap (λ s. s.knows) c.self.view_is) c.self.invariant.1
    (disk_back g.D.Told.told g.D.Told.faults _ _ c.args.stream c.into_disk.result c.args.disk c.into_disk.ensures c.requires.stands) c.requires.at_rest)
    (device-word begun c.args.stream)
