use Rattle.cc_queue.proofs.Steps.{takes, learns}
use Rattle.cc_queue.proofs.queue.Queue.take.Goals as goal

pub pop_as-requires-clause-rule : goal.pop_as-requires-clause-rule
pop_as-requires-clause-rule g c = (takes _ _, learns _ _)
