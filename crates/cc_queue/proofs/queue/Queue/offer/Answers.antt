use Rattle.cc_queue.proofs.Steps.{pushes, learns}
use Rattle.cc_queue.proofs.queue.Queue.offer.Goals as goal

pub push_as-requires-clause-rule : goal.push_as-requires-clause-rule
push_as-requires-clause-rule g c = (pushes _ _ _ _, learns _ _)
