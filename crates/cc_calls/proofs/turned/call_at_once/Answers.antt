use Rattle.cc_effects.proofs.Starts.{begins}
use Rattle.cc_calls.proofs.Turning.{at-once}
use Rattle.cc_calls.proofs.Waiting.{never-waits}
use Rattle.cc_calls.proofs.turned.call_at_once.Goals as goal

pub returns-clause-ends : goal.returns-clause-ends
returns-clause-ends g c =
    let w = g.T.Turns.standing c.args.turns.now in
    at-once w (g.T.Turns.standing c.turned.new.turns) c.args.stream c.args.call c.turned.result c.in-Ended.answer c.args.out.now c.turned.new.out
    c.in-Ended.is c.turned.ensures.went c.turned.ensures.good c.turned.ensures.full
    (c.turned.ensures.left w.seen (begins w.number c.args.call w.seen))

pub unreachable-requires : goal.unreachable-requires
unreachable-requires g c =
    let w = g.T.Turns.standing c.args.turns.now in
    let left = rw c.in-GoesOn.is at (c.turned.ensures.left w.seen (begins w.number c.args.call w.seen)) in
    never-waits w.setup c.args.stream _ c.args.call (g.T.Turns.standing c.turned.new.turns).seen c.requires.pageless left.2
