-- The pass goes on as it stood.
use Rattle.cc_calls.specs.Pages.{WentOn}
use Rattle.bench.proofs.calls.repeat.Given as goal

abbrev pub invariant-loop-number : goal.invariant-loop-number
invariant-loop-number g l = WentOn (g.T.Turns.standing l.initial.turns) (g.T.Turns.standing l.turns)
