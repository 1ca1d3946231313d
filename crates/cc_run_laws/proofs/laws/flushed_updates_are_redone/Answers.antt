use Rattle.cc_run_laws.proofs.Flushed.{flushed-kept, handed-durable, kept-applied}
use Rattle.cc_run_laws.proofs.laws.flushed_updates_are_redone.Goals as goal

pub returns-clause-durable : goal.returns-clause-durable
returns-clause-durable g c = λ s log stream was had call restarted it contains durable.
    handed-durable g.D.Told.told g.D.Told.faults g.L.LogFile.told g.L.LogFile.faults s log stream was had call.disks call.logs restarted.handed restarted.kept restarted.handed_in it contains durable

pub returns-clause-flushed : goal.returns-clause-flushed
returns-clause-flushed g c = flushed-kept g.D.Told.told g.D.Told.faults g.L.LogFile.told g.L.LogFile.faults

pub returns-clause-applied : goal.returns-clause-applied
returns-clause-applied g c = kept-applied g.D.Told.told g.D.Told.faults g.L.LogFile.told g.L.LogFile.faults
