use Rattle.std.proofs.Common.{subst}
use Rattle.cc_turns.specs.Desk.{tells_of}
use Rattle.cc_turns.specs.Crash.{DisksAreCrashSafe, LogsAreDurable}
use Rattle.cc_world.specs.Crash.{disks_in, files_in}
use Rattle.cc_world.proofs.CrashSafe.{disks-safe, logs-safe}
use Rattle.cc_world.proofs.machine.Machine.crash_safe.Goals as goal

pub returns-clause-crash : goal.returns-clause-crash
returns-clause-crash g c =
    let tells = tells_of g.D.Told.told g.D.Told.faults g.L.LogFile.told g.L.LogFile.faults g.Q.PostRoutine.posted in
    subst (λ w. DisksAreCrashSafe tells w.begun.disks w.journal.entries (disks_in w)) c.self.view_is (disks-safe _ _ c.self.invariant.0)

pub returns-clause-logged : goal.returns-clause-logged
returns-clause-logged g c =
    let tells = tells_of g.D.Told.told g.D.Told.faults g.L.LogFile.told g.L.LogFile.faults g.Q.PostRoutine.posted in
    subst (λ w. LogsAreDurable tells w.journal.entries (files_in w)) c.self.view_is (logs-safe _ _ c.self.invariant.0)
