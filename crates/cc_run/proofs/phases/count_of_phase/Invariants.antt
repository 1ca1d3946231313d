use Rattle.std.proofs.Common.{length, take, drop, ◌-◌, ◌≡◌, ◌≤◌}
use Rattle.std.specs.List.{AllByRecursion}
use Rattle.cc_script.specs.Within.{PhasesAscend}
use Rattle.cc_run.proofs.phases.count_of_phase.Given as goal

abbrev pub invariant-loop-count : goal.invariant-loop-count
invariant-loop-count l = record {
  low : l.count ≤ length l.lines;
  those : AllByRecursion (λ line. line.phase ≡ l.phase) (take l.count l.lines);
  later : PhasesAscend l.phase (drop l.count l.lines);
}

abbrev pub decreases-loop-count : goal.decreases-loop-count
decreases-loop-count l = length l.lines - l.count
