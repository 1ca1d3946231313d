use Rattle.cc_update_laws.proofs.Devices.{begun-durable, log-front, log-whole}
use Rattle.cc_update_laws.proofs.laws.runs_go_on_with_their_logs.Goals as goal

pub returns-clause-durable : goal.returns-clause-durable
returns-clause-durable c = begun-durable

pub returns-clause-left : goal.returns-clause-left
returns-clause-left c = log-whole

pub returns-clause-front : goal.returns-clause-front
returns-clause-front c = log-front
