-- What the call told is an id by its reply, so no other answer is reached; the new hold has the range of the pin.
use Rattle.cc_calls.proofs.Making.{repin-ends, repin-failed, repin-id}
use Rattle.cc_calls.proofs.repins.repin.Goals as goal

pub unreachable-requires : goal.unreachable-requires
unreachable-requires g c =
    let w = g.T.Turns.standing c.args.turns.now in
    let v = g.T.Turns.standing c.call_at_once.new.turns in
    let told = repin-id w v c.args.hold.now _ _ c.requires.holding c.in-Ok.told (rw (c.in-Ok.is, c.held-held.ensures) at c.call_at_once.ensures.ends) in
    c.in_default.not-Hold told.0 told.1.0

pub returns-in-Hold : goal.returns-in-Hold
returns-in-Hold g c =
    let w = g.T.Turns.standing c.args.turns.now in
    let v = g.T.Turns.standing c.call_at_once.new.turns in
    record {
      ends =
          rw c.held-held.ensures
          (repin-ends w v c.args.hold.now _ _ c.requires.holding c.in-Hold.id (rw (c.in-Ok.is, c.in-Hold.is, c.held-held.ensures) at c.call_at_once.ensures.ends));
    }

pub returns-in-Err : goal.returns-in-Err
returns-in-Err g c =
    let w = g.T.Turns.standing c.args.turns.now in
    let v = g.T.Turns.standing c.call_at_once.new.turns in
    record {
      ends = repin-failed w v c.args.hold.now _ _ c.requires.holding c.in-Err.error (rw (c.in-Err.is, c.held-held.ensures) at c.call_at_once.ensures.ends);
    }
