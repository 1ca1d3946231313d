use Rattle.cc_effects.proofs.NoncachedSteps.{unpin-after, unpin-before}
use Rattle.cc_effects.proofs.laws.repins_stay_explained.Goals as goal

pub returns-clause-after : goal.returns-clause-after
returns-clause-after c = unpin-after

pub returns-clause-before : goal.returns-clause-before
returns-clause-before c = unpin-before
