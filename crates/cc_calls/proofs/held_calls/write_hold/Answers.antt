-- What the one call left is what a use of a hold leaves; with its place reserved it cannot have failed.
use Rattle.cc_calls.specs.Ends.{UseEnds}
use Rattle.cc_calls.proofs.Sure.{never-fails}
use Rattle.cc_calls.proofs.Using.{handed-on, write-ends, write-failed}
use Rattle.cc_calls.proofs.held_calls.write_hold.Goals as goal

pub returns-in_err-call_at_once-clause-ends : goal.returns-in_err-call_at_once-clause-ends
returns-in_err-call_at_once-clause-ends g c =
    let w = g.T.Turns.standing c.args.turns.now in
    let v = g.T.Turns.standing c.call_at_once.new.turns in
    λ of_kind h.
    handed-on (λ answer. UseEnds w v of_kind c.args.held.now c.args.call answer) c.from_residual.result c.in_err-call_at_once.field-0.0 c.from_residual.ensures.1
    (write-failed w v of_kind c.args.held.now c.args.call _ _ h c.in_err-call_at_once.field-0.0 (rw c.in_err-call_at_once.was at c.call_at_once.ensures.ends) (rw (c.in_err-call_at_once.was, c.stream.ensures) at c.call_at_once.ensures.full))

pub returns-in_err-call_at_once-clause-sure : goal.returns-in_err-call_at_once-clause-sure
returns-in_err-call_at_once-clause-sure g c =
    let w = g.T.Turns.standing c.args.turns.now in
    let v = g.T.Turns.standing c.call_at_once.new.turns in
    let ended = rw c.in_err-call_at_once.was at c.call_at_once.ensures.ends in
    λ none. absurd (never-fails w v c.args.held.now.file.stream c.args.call c.in_err-call_at_once.field-0.0 c.requires.writes c.requires.filed none ended.good ended.left.0)

pub returns-clause-ends : goal.returns-clause-ends
returns-clause-ends g c =
    let w = g.T.Turns.standing c.args.turns.now in
    let v = g.T.Turns.standing c.call_at_once.new.turns in
    λ of_kind h.
    write-ends w v of_kind c.args.held.now c.args.call _ _ h c.in_ok-call_at_once.field-0 c.requires.writes (rw c.in_ok-call_at_once.was at c.call_at_once.ensures.ends)
