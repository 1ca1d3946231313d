use Rattle.std.proofs.Common.{◌≡◌, ◌⊎◌, ◌≤◌, ◌-◌, ◌++◌, length, take, replicate}
use Rattle.cc_entry.proofs.scan.end_of_blocks.Given as goal

abbrev pub invariant-loop-end : goal.invariant-loop-end
invariant-loop-end l = record {
  from : l.at ≤ l.end;
  within : l.end ≤ length l.slice;
  same : take l.end l.slice ≡ take l.at l.slice ++ replicate (l.end - l.at) l.byte;
  long : (l.end ≡ l.at) ⊎ (64 ≤ l.end - l.at);
}

abbrev pub decreases-loop-end : goal.decreases-loop-end
decreases-loop-end l = length l.slice - l.end
