use Rattle.cc_pieces.proofs.Unrecorded.{lines-unrecorded, restarts-unrecorded}
use Rattle.cc_pieces.proofs.laws.no_record_is_written_before_its_line.Goals as goal

pub returns-clause-restarts : goal.returns-clause-restarts
returns-clause-restarts c = restarts-unrecorded

pub returns-clause-streams : goal.returns-clause-streams
returns-clause-streams c = lines-unrecorded
