-- The head's routine is not posted yet; what is left of deferrals and routines is the queue behind the head.
use Rattle.std.proofs.Common.{ap}
use Rattle.cc_journal.proofs.DeferredSteps.{writes_post, stands_post, unposted_post, head_unposted}
use Rattle.cc_journal.proofs.queue.Deferred.post.Goals as goal

pub post-requires : goal.post-requires
post-requires g c =
    let inside = c.self.inside in
    head_unposted g.Q.PostRoutine.posted inside.deferrals.items inside.routines.items c.args.self.now.writes c.remove-id.result
    (ap (λ v. v.writes) c.self.view_is) c.self.invariant.0 c.requires.waits c.remove-id.ensures.value c.requires.unposted

pub returns-clause-writes : goal.returns-clause-writes
returns-clause-writes g c =
    let inside = c.self.inside in
    writes_post inside.deferrals.items c.remove.new.self.items inside.routines.items c.remove-id.new.self.items c.args.self.now.writes
    (ap (λ v. v.writes) c.self.view_is) c.self.invariant.0 c.remove.ensures.items c.remove-id.ensures.items

pub returns-clause-stands : goal.returns-clause-stands
returns-clause-stands g c past =
    let now = c.args.self.now in
    stands_post now.writes _ now.count c.self.inside.count c.remove-id.result.0 past (returns-clause-writes g c) (ap (λ v. v.count) c.self.view_is)

pub returns-clause-still_unposted : goal.returns-clause-still_unposted
returns-clause-still_unposted g c = unposted_post g.Q.PostRoutine.posted c.args.self.now.writes _ (returns-clause-writes g c)
