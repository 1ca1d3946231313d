use Rattle.cc_laws.proofs.HistorySteps.{history-grown}
use Rattle.cc_laws.proofs.laws.histories_grow.Goals as goal

pub returns : goal.returns
returns c = history-grown
