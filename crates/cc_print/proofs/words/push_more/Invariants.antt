use Rattle.std.proofs.Common.{◌≡◌, ◌++◌, length, string_bytes}
use Rattle.cc_print.specs.Words.{more_runs}
use Rattle.cc_print.proofs.words.push_more.Given as goal

abbrev pub invariant-loop-runs : goal.invariant-loop-runs
invariant-loop-runs l = string_bytes l.text ++ more_runs l.runs ≡ string_bytes l.initial.text ++ more_runs l.initial.runs

abbrev pub decreases-loop-runs : goal.decreases-loop-runs
decreases-loop-runs l = length l.runs
