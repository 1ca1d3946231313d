use Rattle.cc_effects.proofs.Begun.{ascend-after, ascend-before, ascend-then}
use Rattle.cc_effects.proofs.laws.begins_stay_ascending.Goals as goal

pub returns-clause-after : goal.returns-clause-after
returns-clause-after c = ascend-after

pub returns-clause-before : goal.returns-clause-before
returns-clause-before c = ascend-before

pub returns-clause-joined : goal.returns-clause-joined
returns-clause-joined c = ascend-then
