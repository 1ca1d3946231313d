use Rattle.cc_queue.proofs.Steps.{forks}
use Rattle.cc_queue.proofs.queue.Queue.split.Goals as goal

pub another-requires-clause-rule : goal.another-requires-clause-rule
another-requires-clause-rule g c = forks _ _
