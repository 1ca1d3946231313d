-- What the call told is the pair of LSNs of its reply, or none, so no other answer is reached; or it failed.
use Rattle.std.specs.Prelude.{refl}
use Rattle.cc_entry.specs.declared.call.Call.TheVariants as call
use Rattle.cc_entry.specs.declared.query.Query.TheVariants as query
use Rattle.cc_calls.specs.Answers.{lsns_outcome}
use Rattle.cc_calls.proofs.States.{lsns-done, lsns-there}
use Rattle.cc_calls.proofs.Turning.{failed-at-once}
use Rattle.cc_calls.proofs.queries.lsn_for_file.Goals as goal

pub lsns-requires : goal.lsns-requires
lsns-requires g c =
    lsns-there (g.T.Turns.standing c.args.turns.now) (g.T.Turns.standing c.call_at_once.new.turns) c.args.file _ _
    c.in-Ok.told (rw c.in-Ok.is at c.call_at_once.ensures.ends)

pub returns-in-Ok : goal.returns-in-Ok
returns-in-Ok g c = record {
  ends =
      lsns-done (g.T.Turns.standing c.args.turns.now) (g.T.Turns.standing c.call_at_once.new.turns) c.args.file _ _ c.lsns.result
      (rw (c.in-Ok.is, c.lsns.ensures) at c.call_at_once.ensures.ends);
}

pub returns-in-Err : goal.returns-in-Err
returns-in-Err g c = record {
  ends =
      failed-at-once lsns_outcome (g.T.Turns.standing c.args.turns.now) (g.T.Turns.standing c.call_at_once.new.turns) (call.Query (query.LsnForFile c.args.file))
      c.in-Err.error _ _ refl (rw c.in-Err.is at c.call_at_once.ensures.ends);
}
