use Rattle.std.proofs.Common.{sym, refl}
use Rattle.cc_crash.proofs.SizeSteps.{valid_none, valid_next}
use Rattle.cc_crash.proofs.sizes.valid_with.Goals as goal

pub loop-i-init : goal.loop-i-init
loop-i-init c = sym (valid_none _ c.args.stream refl)

pub loop-i-preserved : goal.loop-i-preserved
loop-i-preserved c = valid_next _ _ _ _ _ c.index-journal-i.is c.loop-i-test.true c.in_ok-valid.ensures
