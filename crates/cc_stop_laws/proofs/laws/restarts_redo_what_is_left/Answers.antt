use Rattle.cc_stop_laws.proofs.Restarting.{made-again, made-file, possible-handed, redone-handed, tells-last}
use Rattle.cc_stop_laws.proofs.laws.restarts_redo_what_is_left.Goals as goal

pub returns-clause-made : goal.returns-clause-made
returns-clause-made g c = λ streams restarts ended disks disks_begun logs logs_begun restarted s log n size first stream line one pages left handed after kept is once ended_at redone handed_in again.
    made-file g.D.Told.told g.D.Told.faults g.L.LogFile.told g.L.LogFile.faults streams restarts ended disks disks_begun logs logs_begun restarted s log n line one kept is once ended_at handed_in.log_at size first stream pages left handed after redone handed_in again

pub returns-clause-last : goal.returns-clause-last
returns-clause-last g c = tells-last g.D.Told.told g.D.Told.faults g.L.LogFile.told g.L.LogFile.faults

pub returns-clause-again : goal.returns-clause-again
returns-clause-again g c = λ streams restarts ended disks disks_begun logs logs_begun restarted s log n size first stream line one pages left handed after kept is once ended_at redone handed_in again.
    made-again g.D.Told.told g.D.Told.faults g.L.LogFile.told g.L.LogFile.faults streams restarts ended disks disks_begun logs logs_begun restarted s log n line one kept is once ended_at handed_in.log_at size first stream pages left handed after redone handed_in again

pub returns-clause-untouched : goal.returns-clause-untouched
returns-clause-untouched g c = λ disks logs s log size first stream pages left handed after kept redone handed_in.
    (redone-handed s size first stream pages left handed after kept redone handed_in.handed_on handed_in.keeps, possible-handed left handed handed_in.handed_on)
