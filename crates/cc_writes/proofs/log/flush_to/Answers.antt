use Rattle.std.proofs.Common.{ap, sym, subst}
use Rattle.cc_turns.specs.Standing.{Standing}
use Rattle.cc_writes.specs.Logs.{FlushToLsnLeft}
use Rattle.cc_writes.proofs.Logging.{holds-log, left-turn}
use Rattle.cc_writes.proofs.log.flush_to.Goals as goal

pub returns-clause-left : goal.returns-clause-left
returns-clause-left g c =
    let w = g.T.Turns.standing c.args.turns.now in
    let x = g.T.Turns.standing c.take_log-log.new.self in
    let took = c.take_log-log.ensures.took in
    subst (λ (y : Standing). FlushToLsnLeft w c.args.handle c.args.to c.flush_in_hand-flushed.result y.seen) (sym c.give_log.ensures)
    (left-turn w x c.args.handle c.args.to c.flush_in_hand-flushed.result (g.T.Turns.standing c.flush_in_hand-flushed.new.turns).seen (ap (λ (y : Standing). y.number) took.same)
    (holds-log w x c.args.handle took c.requires.no_log) took.grows c.flush_in_hand-flushed.ensures.left)
