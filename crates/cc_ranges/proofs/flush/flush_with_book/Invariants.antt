use Rattle.std.specs.Prelude.{◌-◌, ◌^◌}
use Rattle.cc_ranges.proofs.FlushHolding.{ComesOn}
use Rattle.cc_ranges.proofs.flush.flush_with_book.Given as goal

abbrev pub invariant-pages : goal.invariant-pages
invariant-pages g l =
    ComesOn g.T.Disk.Told.told g.T.Disk.Told.faults (g.T.Turns.standing l.fn.turns) (g.T.Turns.standing l.turns) l.fn.file l.fn.span l.from l.book l.disk

abbrev pub decreases-pages : goal.decreases-pages
decreases-pages g l = 2 ^ 51 - l.from
