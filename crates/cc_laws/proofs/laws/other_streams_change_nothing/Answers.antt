use Rattle.cc_laws.proofs.QuietSteps.{history-quiet}
use Rattle.cc_laws.proofs.laws.other_streams_change_nothing.Goals as goal

pub returns : goal.returns
returns c = history-quiet
