-- The write that is posted is the head of the past's queue, which may go, so its entry may stand.
use Rattle.cc_calls.proofs.Throttling.{posted-there}
use Rattle.cc_calls.proofs.throttle.post_in.Goals as goal

pub returns-clause-left : goal.returns-clause-left
returns-clause-left g c u limit =
    posted-there u c.push_posted.result.id c.may_post.result c.args.journal.now c.reserve.new.self c.push_posted.new.self limit c.may_post.ensures
    c.if-not-may_post.false c.in_ok-reserve.ensures.reserved c.push_posted.ensures.first c.push_posted.ensures.placed
