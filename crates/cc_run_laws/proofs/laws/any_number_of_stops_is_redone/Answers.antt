use Rattle.cc_run_laws.proofs.Chains.{all-left, all-made}
use Rattle.cc_run_laws.proofs.laws.any_number_of_stops_is_redone.Goals as goal

pub returns-clause-left : goal.returns-clause-left
returns-clause-left g c = all-left g.D.Told.told g.D.Told.faults g.L.LogFile.told g.L.LogFile.faults

pub returns-clause-file : goal.returns-clause-file
returns-clause-file g c = all-made g.D.Told.told g.D.Told.faults g.L.LogFile.told g.L.LogFile.faults
