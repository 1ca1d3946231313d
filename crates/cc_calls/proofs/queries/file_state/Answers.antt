-- What the call told is the state that its reply says, so no other answer is reached; or it failed.
use Rattle.std.specs.Prelude.{refl}
use Rattle.cc_entry.specs.declared.call.Call.TheVariants as call
use Rattle.cc_entry.specs.declared.query.Query.TheVariants as query
use Rattle.cc_calls.specs.Answers.{state_outcome}
use Rattle.cc_calls.proofs.States.{state-done, state-there}
use Rattle.cc_calls.proofs.Turning.{failed-at-once}
use Rattle.cc_calls.proofs.queries.file_state.Goals as goal

pub state-requires : goal.state-requires
state-requires g c =
    state-there (g.T.Turns.standing c.args.turns.now) (g.T.Turns.standing c.call_at_once.new.turns) c.args.file _ _
    c.in-Ok.told (rw c.in-Ok.is at c.call_at_once.ensures.ends)

pub returns-in-Ok : goal.returns-in-Ok
returns-in-Ok g c = record {
  ends =
      state-done (g.T.Turns.standing c.args.turns.now) (g.T.Turns.standing c.call_at_once.new.turns) c.args.file _ _ c.state.result
      (rw (c.in-Ok.is, c.state.ensures) at c.call_at_once.ensures.ends);
  good = c.call_at_once.ensures.ends.good;
}

pub returns-in-Err : goal.returns-in-Err
returns-in-Err g c = record {
  ends =
      failed-at-once state_outcome (g.T.Turns.standing c.args.turns.now) (g.T.Turns.standing c.call_at_once.new.turns) (call.Query (query.State c.args.file))
      c.in-Err.error _ _ refl (rw c.in-Err.is at c.call_at_once.ensures.ends);
  good = c.call_at_once.ensures.ends.good;
}
