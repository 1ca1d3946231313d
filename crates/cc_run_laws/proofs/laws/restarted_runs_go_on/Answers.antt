use Rattle.cc_run_laws.proofs.Calls.{went-on}
use Rattle.cc_run_laws.proofs.laws.restarted_runs_go_on.Goals as goal

pub returns : goal.returns
returns g c = went-on g.D.Told.told g.D.Told.faults g.L.LogFile.told g.L.LogFile.faults
