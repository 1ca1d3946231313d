use Rattle.cc_lines.proofs.Calls.{unplaced-read}
use Rattle.cc_lines.proofs.line.read.Goals as goal

pub returns-in_default-clause-answered : goal.returns-in_default-clause-answered
returns-in_default-clause-answered g c = unplaced-read _ _ _ _ _ _

pub returns-in_default-new-clause-answered : goal.returns-in_default-new-clause-answered
returns-in_default-new-clause-answered g c = unplaced-read _ _ _ _ _ _
