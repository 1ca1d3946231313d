use Rattle.std.proofs.Common.{◌≡◌, ◌-◌, ℕ, ◌<◌, ◌≤◌, List, ◌++◌, length, map, take, drop}
use Rattle.cc_entry.specs.Runs.{byte_alone, runs_of}
use Rattle.cc_entry.proofs.scan.unlike.Given as goal

abbrev pub invariant-loop-n : goal.invariant-loop-n
invariant-loop-n l = record {
  within : l.n ≤ length l.slice;
  last : 0 < length l.slice → l.n < length l.slice;
  told : (behind : List ℕ) → runs_of (l.slice ++ behind) ≡ map byte_alone (take l.n l.slice) ++ runs_of (drop l.n l.slice ++ behind);
}

abbrev pub decreases-loop-n : goal.decreases-loop-n
decreases-loop-n l = length l.slice - l.n
