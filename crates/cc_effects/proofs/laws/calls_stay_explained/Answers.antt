use Rattle.cc_effects.proofs.CallSteps.{left-after, left-before, left-joined}
use Rattle.cc_effects.proofs.laws.calls_stay_explained.Goals as goal

pub returns-clause-after : goal.returns-clause-after
returns-clause-after c = left-after

pub returns-clause-before : goal.returns-clause-before
returns-clause-before c = left-before

pub returns-clause-joined : goal.returns-clause-joined
returns-clause-joined c = left-joined
