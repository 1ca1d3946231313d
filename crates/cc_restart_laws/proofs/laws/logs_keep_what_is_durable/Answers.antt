use Rattle.cc_restart_laws.proofs.Left.{log-left}
use Rattle.cc_restart_laws.proofs.laws.logs_keep_what_is_durable.Goals as goal

pub returns : goal.returns
returns c = log-left
