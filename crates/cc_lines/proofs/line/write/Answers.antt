use Rattle.cc_lines.proofs.Calls.{unplaced-write}
use Rattle.cc_lines.proofs.line.write.Goals as goal

pub returns-in_default-clause-answered : goal.returns-in_default-clause-answered
returns-in_default-clause-answered g c = unplaced-write _ _ _ _ _
