use Rattle.cc_laws.proofs.UnrefusedCalls.{unrefused-reasons}
use Rattle.cc_laws.proofs.laws.refusals_have_a_reason.Goals as goal

pub returns : goal.returns
returns c = unrefused-reasons
