-- The pass goes on as it stood.
use Rattle.cc_calls.specs.Pages.{WentOn}
use Rattle.bench.proofs.calls.write_and_flush.Given as goal

abbrev pub invariant-loop-piece : goal.invariant-loop-piece
invariant-loop-piece g l = WentOn (g.T.Turns.standing l.initial.turns) (g.T.Turns.standing l.turns)
