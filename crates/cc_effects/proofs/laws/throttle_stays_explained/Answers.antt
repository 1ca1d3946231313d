use Rattle.cc_effects.proofs.OtherSteps.{defer-after, defer-before, post-after, post-before}
use Rattle.cc_effects.proofs.laws.throttle_stays_explained.Goals as goal

pub returns-clause-defer_after : goal.returns-clause-defer_after
returns-clause-defer_after c = defer-after

pub returns-clause-defer_before : goal.returns-clause-defer_before
returns-clause-defer_before c = defer-before

pub returns-clause-post_after : goal.returns-clause-post_after
returns-clause-post_after c = post-after

pub returns-clause-post_before : goal.returns-clause-post_before
returns-clause-post_before c = post-before
