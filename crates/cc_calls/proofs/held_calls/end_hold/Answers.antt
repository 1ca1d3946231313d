use Rattle.cc_calls.proofs.Using.{hold-ended}
use Rattle.cc_calls.proofs.held_calls.end_hold.Goals as goal

pub returns : goal.returns
returns g c = record {
  ends = hold-ended (g.T.Turns.standing c.args.turns.now) (g.T.Turns.standing c.call_at_once.new.turns) c.args.held _ _ c.in-Ok.field-0 (rw c.in-Ok.is at c.call_at_once.ensures.ends);
}
