use Rattle.cc_run.proofs.StoredLines.{stored-lines}
use Rattle.cc_run.proofs.laws.stored_streams_open_as_spelled.Goals as goal

pub returns : goal.returns
returns c = stored-lines
