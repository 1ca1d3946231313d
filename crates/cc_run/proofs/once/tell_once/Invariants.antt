-- From a line on, no number is told twice.
use Rattle.cc_run.proofs.Untold.{OnceFrom}
use Rattle.cc_run.proofs.once.tell_once.Given as goal

abbrev pub invariant-loop-at : goal.invariant-loop-at
invariant-loop-at l = OnceFrom l.lines l.initial.replies l.at l.replies

abbrev pub decreases-loop-at : goal.decreases-loop-at
decreases-loop-at l = l.at
