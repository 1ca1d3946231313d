use Rattle.cc_laws.proofs.HistorySteps.{history-call_failed}
use Rattle.cc_laws.proofs.laws.failed_calls_change_nothing.Goals as goal

pub returns : goal.returns
returns c = history-call_failed
