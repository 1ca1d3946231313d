use Rattle.std.proofs.Common.{◌≡◌}
use Rattle.std.specs.Cmp.Lexicographic.{pointwise}
use Rattle.cc_entry.specs.Runs.{runs_of}
use Rattle.cc_entry.proofs.Longest.{same_run}
use Rattle.cc_entry.proofs.bytes.BytesPartialEq.eq.Given as goal

abbrev pub invariant-loop-run : goal.invariant-loop-run
invariant-loop-run l = pointwise same_run (runs_of l.self) (runs_of l.other) ≡ pointwise same_run l.run-iterator l.theirs
