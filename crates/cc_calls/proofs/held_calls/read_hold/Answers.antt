-- What the one call left is what a read through a hold leaves, done or failed; so it is handed on as it is.
use Rattle.cc_calls.specs.Ends.{HeldReadEnds}
use Rattle.cc_calls.proofs.Using.{handed-on, read-ends, read-failed}
use Rattle.cc_calls.proofs.held_calls.read_hold.Goals as goal

pub returns-in_err-call_at_once : goal.returns-in_err-call_at_once
returns-in_err-call_at_once g c =
    let w = g.T.Turns.standing c.args.turns.now in
    let v = g.T.Turns.standing c.call_at_once.new.turns in
    record {
      ends = λ of_kind h.
          handed-on (λ answer. HeldReadEnds w v of_kind c.args.held.now c.args.call answer c.args.out.now c.call_at_once.new.out)
          c.from_residual.result c.in_err-call_at_once.field-0.0 c.from_residual.ensures.1
          (read-failed w v of_kind c.args.held.now c.args.call c.args.out.now c.call_at_once.new.out h c.in_err-call_at_once.field-0.0 c.requires.fills (rw c.in_err-call_at_once.was at c.call_at_once.ensures.ends));
    }

pub returns : goal.returns
returns g c =
    let w = g.T.Turns.standing c.args.turns.now in
    let v = g.T.Turns.standing c.call_at_once.new.turns in
    record {
      ends = λ of_kind h.
          read-ends w v of_kind c.args.held.now c.args.call c.args.out.now c.call_at_once.new.out h c.in_ok-call_at_once.field-0 c.requires.fills (rw c.in_ok-call_at_once.was at c.call_at_once.ensures.ends);
    }
