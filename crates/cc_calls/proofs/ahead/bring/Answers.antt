-- What the step is told is the flag of its reply, so no other answer is reached; or it failed.
use Rattle.cc_calls.proofs.AheadSteps.{step-done, step-failed, step-there}
use Rattle.cc_calls.proofs.ahead.bring.Goals as goal

pub flag-requires : goal.flag-requires
flag-requires g c =
    step-there (g.T.Turns.standing c.args.turns.now) (g.T.Turns.standing c.call_paged.new.turns) c.args.request _ _
    c.in-Ok.told (rw c.in-Ok.is at c.call_paged.ensures)

pub returns-in-Ok : goal.returns-in-Ok
returns-in-Ok g c =
    step-done (g.T.Turns.standing c.args.turns.now) (g.T.Turns.standing c.call_paged.new.turns) c.args.request _ _ c.flag.result
    (rw (c.in-Ok.is, c.flag.ensures) at c.call_paged.ensures)

pub returns-in-Err : goal.returns-in-Err
returns-in-Err g c =
    step-failed (g.T.Turns.standing c.args.turns.now) (g.T.Turns.standing c.call_paged.new.turns) c.args.request _ _
    c.in-Err.error (rw c.in-Err.is at c.call_paged.ensures)
