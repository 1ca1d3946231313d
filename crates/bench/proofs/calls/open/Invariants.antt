-- The pass goes on as it stood.
use Rattle.cc_calls.specs.Pages.{WentOn}
use Rattle.bench.proofs.calls.open.Given as goal

abbrev pub invariant-loop-part : goal.invariant-loop-part
invariant-loop-part g l = WentOn (g.T.Turns.standing l.initial.turns) (g.T.Turns.standing l.turns)
