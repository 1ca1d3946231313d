-- What the call told is whether the map went, by its reply, so no other answer is reached; or it failed.
use Rattle.std.specs.Prelude.{refl}
use Rattle.cc_entry.specs.declared.call.Call.TheVariants as call
use Rattle.cc_calls.specs.Answers.{flag_outcome}
use Rattle.cc_calls.proofs.Closing.{uninitialize-done, uninitialize-there}
use Rattle.cc_calls.proofs.Turning.{failed-at-once}
use Rattle.cc_calls.proofs.maps.uninitialize.Goals as goal

pub flag-requires : goal.flag-requires
flag-requires g c =
    uninitialize-there (g.T.Turns.standing c.args.turns.now) (g.T.Turns.standing c.call_at_once.new.turns) c.args.file c.args.truncate _ _
    c.in-Ok.told (rw c.in-Ok.is at c.call_at_once.ensures.ends)

pub returns-in-Ok : goal.returns-in-Ok
returns-in-Ok g c = record {
  ends =
      uninitialize-done (g.T.Turns.standing c.args.turns.now) (g.T.Turns.standing c.call_at_once.new.turns) c.args.file c.args.truncate _ _ c.flag.result
      (rw (c.in-Ok.is, c.flag.ensures) at c.call_at_once.ensures.ends);
}

pub returns-in-Err : goal.returns-in-Err
returns-in-Err g c = record {
  ends = record {
    ends =
        failed-at-once flag_outcome (g.T.Turns.standing c.args.turns.now) (g.T.Turns.standing c.call_at_once.new.turns) (call.Uninitialise c.args.file c.args.truncate)
        c.in-Err.error _ _ refl (rw c.in-Err.is at c.call_at_once.ensures.ends);
    closed = tt;
  };
}
