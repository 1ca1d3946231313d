use Rattle.cc_run_laws.proofs.Chains.{file-made-by, first-left, runs-left}
use Rattle.cc_run_laws.proofs.laws.stopped_runs_are_redone_by_the_next.Goals as goal

pub returns-clause-first : goal.returns-clause-first
returns-clause-first g c = first-left g.D.Told.told g.D.Told.faults g.L.LogFile.told g.L.LogFile.faults

pub returns-clause-made : goal.returns-clause-made
returns-clause-made g c = file-made-by g.D.Told.told g.D.Told.faults g.L.LogFile.told g.L.LogFile.faults

pub returns-clause-later : goal.returns-clause-later
returns-clause-later g c = runs-left g.D.Told.told g.D.Told.faults g.L.LogFile.told g.L.LogFile.faults
