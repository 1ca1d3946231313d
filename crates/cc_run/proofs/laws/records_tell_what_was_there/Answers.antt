use Rattle.cc_run.proofs.RecordsTold.{records-told}
use Rattle.cc_run.proofs.laws.records_tell_what_was_there.Goals as goal

pub returns : goal.returns
returns g c = records-told g.D.Told.told g.D.Told.faults
