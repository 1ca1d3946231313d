use Rattle.cc_entry.specs.declared.call.Call.TheVariants as call
use Rattle.cc_writes.proofs.Nearing.{steps_left}
use Rattle.cc_ranges.proofs.WriteHolding.{ComesOn}
use Rattle.cc_ranges.proofs.write_held.make_room.Given as goal

abbrev pub invariant-pages : goal.invariant-pages
invariant-pages g l =
    ComesOn g.T.Disk.Told.told g.T.Disk.Told.faults (g.T.Turns.standing l.fn.turns) (g.T.Turns.standing l.turns) l.fn.file l.fn.page l.book l.disk

abbrev pub decreases-pages : goal.decreases-pages
decreases-pages g l = steps_left l.fn.file.stream (call.NcWrite l.fn.file l.fn.page) l.rounds (g.T.Turns.standing l.turns).seen
