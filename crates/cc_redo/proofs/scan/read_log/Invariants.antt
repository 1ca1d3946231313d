use Rattle.std.proofs.Common.{◌≡◌}
use Rattle.cc_traits.specs.Told.{IfTold}
use Rattle.cc_redo.proofs.EntriesRead.{HasRead}
use Rattle.cc_redo.proofs.scan.read_log.Given as goal

-- the log stays, and what was read of it is kept
abbrev pub invariant-loop-n : goal.invariant-loop-n
invariant-loop-n g l = record {
  stays : g.L.LogFile.told l.log ≡ g.L.LogFile.told l.fn.log;
  counted : g.L.LogFile.faults l.log ≡ g.L.LogFile.faults l.fn.log;
  read : IfTold (g.L.LogFile.told l.fn.log) (HasRead l.n l.entries.items);
}
