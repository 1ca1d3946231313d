use Rattle.std.proofs.Common.{◌≤◌, ◌-◌, length}
use Rattle.cc_entry.proofs.part.Part.next.Given as goal

abbrev pub invariant-loop-at : goal.invariant-loop-at
invariant-loop-at l = record {
  from : l.from ≤ l.at;
  within : l.at ≤ length l.slice;
}

abbrev pub decreases-loop-at : goal.decreases-loop-at
decreases-loop-at l = length l.slice - l.at
