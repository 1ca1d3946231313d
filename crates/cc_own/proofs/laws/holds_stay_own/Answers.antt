use Rattle.cc_own.proofs.OwnHolds.{others-keep, all-keep}
use Rattle.cc_own.proofs.Unchanged.{unchanged-keeps}
use Rattle.cc_own.proofs.laws.holds_stay_own.Goals as goal

pub returns-clause-others : goal.returns-clause-others
returns-clause-others c = others-keep

pub returns-clause-unchanged : goal.returns-clause-unchanged
returns-clause-unchanged c = all-keep

pub returns-clause-between : goal.returns-clause-between
returns-clause-between c = unchanged-keeps
