use Rattle.std.proofs.Common.{arith, ◌-◌}
use Rattle.cc_print.proofs.Index.{reply_at-earlier}
use Rattle.cc_print.proofs.replies.first_places.Goals as goal

pub loop-i-preserved : goal.loop-i-preserved
loop-i-preserved c = λ line.
    reply_at-earlier c.args.replies.now (c.loop-i.i - 1) c.loop-i.i line c.index-replies-i.result _ _ (omega arith) (omega arith) (c.in_ok-insert.ensures.updates.0 line) (c.loop-i.invariant line)
