use Rattle.std.proofs.Common.{◌≡◌, ◌++◌, map, length, string_bytes}
use Rattle.cc_entry.specs.Runs.{byte_alone}
use Rattle.cc_print.specs.Words.{more_runs}
use Rattle.cc_print.proofs.words.push_each.Given as goal

abbrev pub invariant-loop-left : goal.invariant-loop-left
invariant-loop-left l = string_bytes l.text ++ more_runs (map byte_alone l.left) ≡ string_bytes l.initial.text ++ more_runs (map byte_alone l.initial.left)

abbrev pub decreases-loop-left : goal.decreases-loop-left
decreases-loop-left l = length l.left
