use Rattle.cc_writes.proofs.Nearing.{steps_left}
use Rattle.cc_writes.proofs.Repeated.{GoesOn}
use Rattle.cc_writes.proofs.rounds.until_ended.Given as goal

abbrev pub invariant-pages : goal.invariant-pages
invariant-pages g l =
    GoesOn g.T.Disk.Told.told g.T.Disk.Told.faults (g.T.Turns.standing l.fn.turns) (g.T.Turns.standing l.turns) l.fn.book.stream
    l.fn.call l.call l.book l.disk l.fn.out l.out

abbrev pub decreases-pages : goal.decreases-pages
decreases-pages g l = steps_left l.fn.book.stream l.fn.call l.rounds (g.T.Turns.standing l.turns).seen
