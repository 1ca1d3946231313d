use Rattle.cc_run_laws.proofs.Chains.{begun-redone}
use Rattle.cc_run_laws.proofs.laws.stopped_restarts_are_redone_by_the_next.Goals as goal

pub returns : goal.returns
returns g c = begun-redone g.D.Told.told g.D.Told.faults g.L.LogFile.told g.L.LogFile.faults
