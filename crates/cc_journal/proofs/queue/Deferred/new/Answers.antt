use Rattle.cc_journal.proofs.DeferredSteps.{stands_none}
use Rattle.cc_journal.proofs.queue.Deferred.new.Goals as goal

pub returns-clause-stands : goal.returns-clause-stands
returns-clause-stands g c = stands_none _ _ c.in_ok-with_capacity.ensures.items
