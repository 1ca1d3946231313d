-- What the machine gives back is the World's.
use Rattle.std.proofs.Common.{subst}
use Rattle.cc_turns.specs.Crash.{DisksAreCrashSafe, LogsAreDurable}
use Rattle.cc_turns.specs.Desk.{tells_of}
use Rattle.cc_world.proofs.world.World.end.Goals as goal

pub returns-clause-crash : goal.returns-clause-crash
returns-clause-crash g c =
    let tells = tells_of g.D.Told.told g.D.Told.faults g.L.LogFile.told g.L.LogFile.faults g.Q.PostRoutine.posted in
    subst (λ w. DisksAreCrashSafe tells w.begun.disks w.journal.entries c.into_all-disks.result.0.items) c.self.view_is c.into_all-disks.ensures.crash

pub returns-clause-logged : goal.returns-clause-logged
returns-clause-logged g c =
    let tells = tells_of g.D.Told.told g.D.Told.faults g.L.LogFile.told g.L.LogFile.faults g.Q.PostRoutine.posted in
    subst (λ w. LogsAreDurable tells w.journal.entries c.into_all-disks.result.1.items) c.self.view_is c.into_all-disks.ensures.logged
