-- The hold is a pin of the same id, or the map as it was where the call failed.
use Rattle.cc_calls.proofs.Using.{pinned-ends, pinned-failed}
use Rattle.cc_calls.proofs.data_maps.pin_mapped.Goals as goal

pub returns-in-Ok : goal.returns-in-Ok
returns-in-Ok g c =
    let w = g.T.Turns.standing c.args.turns.now in
    let v = g.T.Turns.standing c.call_at_once.new.turns in
    record {
      ends =
          rw (c.of.ensures, ← c.hold.view_is)
          (pinned-ends w v c.hold.inside.held _ _ c.args.exclusive c.in-Ok.field-0 (rw (← c.hold.view_is) at c.requires.holding) (rw c.in-Ok.is at c.call_at_once.ensures.ends));
    }

pub returns-in-Err : goal.returns-in-Err
returns-in-Err g c =
    let w = g.T.Turns.standing c.args.turns.now in
    let v = g.T.Turns.standing c.call_at_once.new.turns in
    record {
      ends =
          rw (← c.hold.view_is)
          (pinned-failed w v c.hold.inside.held _ _ c.args.exclusive c.in-Err.error (rw (← c.hold.view_is) at c.requires.holding) (rw c.in-Err.is at c.call_at_once.ensures.ends));
    }
