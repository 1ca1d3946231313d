use Rattle.cc_event_lines.proofs.Quiet.{posts-no-routine, queue-same, quiet-left, unposted-plainly}
use Rattle.cc_event_lines.proofs.happening.answer_to.Goals as goal

pub happen-requires-clause-unposted : goal.happen-requires-clause-unposted
happen-requires-clause-unposted g c = unposted-plainly g.Q.PostRoutine.posted c.args.event c.requires.plain

pub answer_of-requires : goal.answer_of-requires
answer_of-requires g c = posts-no-routine _ c.args.event c.happen.result _ _ c.requires.plain c.happen.ensures.left

pub returns : goal.returns
returns g c = record {
  answered = record { reply = _; answer_is = c.answer_of.ensures; left = c.happen.ensures.left };
  quiet = quiet-left _ c.args.event _ _ _ c.requires.plain c.happen.ensures.left;
  queue = queue-same g.Q.PostRoutine.posted c.args.event c.happen.result _ _ c.requires.plain c.happen.ensures.queued;
  begun = c.happen.ensures.begun;
}
