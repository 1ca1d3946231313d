use Rattle.cc_ranges.specs.Purge.{left_to_empty}
use Rattle.cc_ranges.proofs.PurgeHolding.{ComesOnAlone}
use Rattle.cc_ranges.proofs.purge.empty_held.Given as goal

abbrev pub invariant-pages : goal.invariant-pages
invariant-pages g l =
    ComesOnAlone g.T.Disk.Told.told g.T.Disk.Told.faults (g.T.Turns.standing l.fn.turns) (g.T.Turns.standing l.turns) l.fn.file l.fn.span l.book l.disk

abbrev pub decreases-pages : goal.decreases-pages
decreases-pages g l = left_to_empty l.fn.file.stream (g.T.Turns.standing l.turns).seen
