use Rattle.std.proofs.Common.{◌≡◌, ◌++◌, length, replicate}
use Rattle.cc_entry.proofs.runs.Left.skip_same.Given as goal

abbrev pub invariant-loop-byte : goal.invariant-loop-byte
invariant-loop-byte l = replicate l.count l.byte ++ l.self ≡ l.initial.self

abbrev pub decreases-loop-byte : goal.decreases-loop-byte
decreases-loop-byte l = length l.self
