-- Where the replies end, no restart is told behind them.
use Rattle.std.proofs.Common.{◌∙◌, sym}
use Rattle.cc_run.proofs.Refusing.{refused-unanswered}
use Rattle.cc_run.proofs.openings.refused_restart.Goals as goal

pub returns-in_default : goal.returns-in_default
returns-in_default c =
    sym (c.loop-number.invariant ∙ refused-unanswered c.args.handle c.loop-number.number c.args.restarts.now c.args.replies.now c.in_default.ensures.lookup.3)
