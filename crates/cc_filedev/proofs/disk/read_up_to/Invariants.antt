use Rattle.std.proofs.Common.{length, ◌-◌, ◌≡◌, ◌≤◌}
use Rattle.cc_filedev.proofs.disk.read_up_to.Given as goal

-- what was read stands in front of what is left to read
abbrev pub invariant-loop-got : goal.invariant-loop-got
invariant-loop-got g l = (l.got ≤ length l.initial.out) × (length l.out ≡ length l.initial.out)

abbrev pub decreases-loop-got : goal.decreases-loop-got
decreases-loop-got g l = length l.initial.out - l.got
