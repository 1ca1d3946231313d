use Rattle.cc_effects.proofs.PageSteps.{write-after, write-before, tick-after, tick-before}
use Rattle.cc_effects.proofs.laws.page_writes_stay_explained.Goals as goal

pub returns-clause-page_after : goal.returns-clause-page_after
returns-clause-page_after c = write-after

pub returns-clause-page_before : goal.returns-clause-page_before
returns-clause-page_before c = write-before

pub returns-clause-tick_after : goal.returns-clause-tick_after
returns-clause-tick_after c = tick-after

pub returns-clause-tick_before : goal.returns-clause-tick_before
returns-clause-tick_before c = tick-before
