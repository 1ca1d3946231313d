use Rattle.cc_effects.proofs.OtherSteps.{ahead-after, ahead-before, levels-after, levels-before}
use Rattle.cc_effects.proofs.laws.steps_and_levels_stay_explained.Goals as goal

pub returns-clause-step_after : goal.returns-clause-step_after
returns-clause-step_after c = ahead-after

pub returns-clause-step_before : goal.returns-clause-step_before
returns-clause-step_before c = ahead-before

pub returns-clause-levels_after : goal.returns-clause-levels_after
returns-clause-levels_after c = levels-after

pub returns-clause-levels_before : goal.returns-clause-levels_before
returns-clause-levels_before c = levels-before
