use Rattle.std.proofs.Common.{◌≡◌, ◌+◌, ◌≤◌, drop}
use Rattle.cc_print.specs.Summary.{count_of_kind}
use Rattle.cc_print.proofs.summary.Kind.count.Given as goal

abbrev pub invariant-loop-action : goal.invariant-loop-action
invariant-loop-action l = (l.count + count_of_kind l.self l.replies (drop l.action-index l.lines) ≡ count_of_kind l.self l.replies l.lines) × (l.count ≤ l.action-index)
