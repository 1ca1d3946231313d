use Rattle.cc_update_laws.proofs.Devices.{next-begins}
use Rattle.cc_update_laws.proofs.laws.restarts_begin_the_next_run.Goals as goal

pub returns : goal.returns
returns c = next-begins
