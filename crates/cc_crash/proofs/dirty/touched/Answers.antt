use Rattle.std.proofs.Common.{sym, ◌∙◌, refl}
use Rattle.cc_crash.proofs.DirtySteps.{touched_none, touched_next}
use Rattle.cc_crash.proofs.dirty.touched.Goals as goal

pub loop-i-init : goal.loop-i-init
loop-i-init c = c.new-pages.ensures.items ∙ sym (touched_none _ c.args.stream refl)

pub loop-i-preserved : goal.loop-i-preserved
loop-i-preserved c = touched_next _ _ _ _ _ _ c.index-journal-i.is c.loop-i-test.true c.loop-i.invariant c.in_ok-pages.ensures
