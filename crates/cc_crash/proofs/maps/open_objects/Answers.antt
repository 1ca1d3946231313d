use Rattle.std.proofs.Common.{◌∙◌}
use Rattle.cc_model.specs.History.{history}
use Rattle.cc_model.specs.Objects.{objects}
use Rattle.cc_crash.proofs.EffectSteps.{objects_next}
use Rattle.cc_crash.proofs.maps.open_objects.Goals as goal

pub loop-entry-init : goal.loop-entry-init
unfolding objects history
loop-entry-init c = c.new-open.ensures.items

pub loop-entry-preserved : goal.loop-entry-preserved
loop-entry-preserved c = c.in_ok-open.ensures ∙ objects_next _ _ _ _ _ _ c.entry-item.is c.loop-entry-test.true c.event_on.ensures.what c.loop-entry.invariant
