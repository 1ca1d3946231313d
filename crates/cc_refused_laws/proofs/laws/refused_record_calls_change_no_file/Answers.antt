use Rattle.cc_refused_laws.proofs.Records.{load-nothing, settle-files}
use Rattle.cc_refused_laws.proofs.laws.refused_record_calls_change_no_file.Goals as goal

pub returns-clause-load : goal.returns-clause-load
returns-clause-load c = load-nothing

pub returns-clause-settle : goal.returns-clause-settle
returns-clause-settle c = settle-files
