-- The pass goes on as it stood, and the place is one of the queue.
use Rattle.std.specs.Prelude.{◌≡◌}
use Rattle.cc_calls.specs.Pages.{WentOn}
use Rattle.bench.proofs.ahead.repeat_ahead.Given as goal

abbrev pub invariant-loop-number : goal.invariant-loop-number
invariant-loop-number g l =
    record {
      went : WentOn (g.T.Turns.standing l.initial.turns) (g.T.Turns.standing l.turns);
      own : l.place.queue ≡ l.queue;
    }
