use Rattle.std.proofs.Common.{sym, subst}
use Rattle.cc_effects.specs.LogCalls.{AppendLeft}
use Rattle.cc_turns.specs.Standing.{Standing}
use Rattle.cc_calls.proofs.LogCalls.{append-turn}
use Rattle.cc_calls.proofs.logs.append_to.Goals as goal

pub returns-clause-left : goal.returns-clause-left
returns-clause-left g c =
    let w = g.T.Turns.standing c.args.turns.now in
    subst (λ (y : Standing). AppendLeft w.setup w.number c.args.handle c.args.piece.now c.append_held-appended.result w.seen y.seen) (sym c.give_log.ensures)
    (append-turn w (g.T.Turns.standing c.take_log-log.new.self) c.args.handle c.args.piece.now c.append_held-appended.result
    (g.T.Turns.standing c.append_held-appended.new.turns).seen c.take_log-log.ensures.took c.append_held-appended.ensures.left)
