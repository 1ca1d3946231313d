use Rattle.cc_own.proofs.OwnHolds.{filed-grows}
use Rattle.cc_own.proofs.laws.filed_calls_stay_filed.Goals as goal

pub returns : goal.returns
returns c = filed-grows
