-- The page goes out, and then the write ends: the pass goes on as it stood over both.
use Rattle.std.specs.Prelude.{ℕ}
use Rattle.std.proofs.Common.{ap, subst}
use Rattle.cc_turns.specs.Standing.{Standing}
use Rattle.cc_writes.specs.Hands.{WentWith}
use Rattle.cc_writes.proofs.OneVisit.{went-then}
use Rattle.cc_ranges.proofs.ends.finish_at.Goals as goal

pub done_at-requires-clause-none : goal.done_at-requires-clause-none
done_at-requires-clause-none g c = ap (λ (y : Standing). y.in_flight) c.tidy_at.ensures.went.same

pub returns-clause-went : goal.returns-clause-went
returns-clause-went g c =
    let w = g.T.Turns.standing c.args.turns.now in
    let x = g.T.Turns.standing c.tidy_at.new.turns in
    let y = g.T.Turns.standing c.done_at.new.turns in
    subst (λ (n : ℕ). WentWith n w y) (ap (λ (z : Standing). z.in_flight) c.tidy_at.ensures.went.same)
    (went-then 0 x.in_flight w x y c.tidy_at.ensures.went c.done_at.ensures.went)

pub returns-clause-left : goal.returns-clause-left
returns-clause-left g c = record {
  then_was = g.T.Turns.standing c.tidy_at.new.turns;
  went = c.tidy_at.ensures.went;
  tidied = c.tidy_at.ensures.left;
  ended = c.done_at.ensures.left;
}
