use Rattle.cc_refused_laws.proofs.Calls.{steps-keep}
use Rattle.cc_refused_laws.proofs.laws.steps_change_no_file.Goals as goal

pub returns : goal.returns
returns c = steps-keep
