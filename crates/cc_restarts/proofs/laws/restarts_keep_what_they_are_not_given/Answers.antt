use Rattle.cc_restarts.proofs.Kept.{all-handles, all-lines, all-logs_kept, all-others, all-tell}
use Rattle.cc_restarts.proofs.laws.restarts_keep_what_they_are_not_given.Goals as goal

pub returns-clause-logs : goal.returns-clause-logs
returns-clause-logs g c = all-tell g.D.Told.told g.D.Told.faults g.L.LogFile.told g.L.LogFile.faults

pub returns-clause-lines : goal.returns-clause-lines
returns-clause-lines g c = all-lines g.D.Told.told g.D.Told.faults g.L.LogFile.told g.L.LogFile.faults

pub returns-clause-handles : goal.returns-clause-handles
returns-clause-handles g c = all-handles g.D.Told.told g.D.Told.faults g.L.LogFile.told g.L.LogFile.faults

pub returns-clause-disks : goal.returns-clause-disks
returns-clause-disks g c = all-others g.D.Told.told g.D.Told.faults g.L.LogFile.told g.L.LogFile.faults

pub returns-clause-others : goal.returns-clause-others
returns-clause-others g c = all-logs_kept g.D.Told.told g.D.Told.faults g.L.LogFile.told g.L.LogFile.faults
