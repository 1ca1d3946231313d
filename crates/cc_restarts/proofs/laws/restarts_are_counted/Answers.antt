use Rattle.cc_restarts.proofs.Counts.{all-fallen, all-faultless, all-logs_fallen}
use Rattle.cc_restarts.proofs.laws.restarts_are_counted.Goals as goal

pub returns-clause-disks : goal.returns-clause-disks
returns-clause-disks g c = all-fallen g.D.Told.told g.D.Told.faults g.L.LogFile.told g.L.LogFile.faults

pub returns-clause-logs : goal.returns-clause-logs
returns-clause-logs g c = all-logs_fallen g.D.Told.told g.D.Told.faults g.L.LogFile.told g.L.LogFile.faults

pub returns-clause-faultless : goal.returns-clause-faultless
returns-clause-faultless g c = all-faultless g.D.Told.told g.D.Told.faults g.L.LogFile.told g.L.LogFile.faults
