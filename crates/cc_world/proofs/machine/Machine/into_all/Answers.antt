use Rattle.std.specs.Prelude.{◌≡◌}
use Rattle.std.proofs.Common.{subst, sym}
use Rattle.cc_turns.specs.Desk.{tells_of}
use Rattle.cc_turns.specs.Crash.{DisksAreCrashSafe, LogsAreDurable}
use Rattle.cc_world.specs.World.{WorldDisksEnded, WorldLogsEnded}
use Rattle.cc_journal.specs.Capacity.{IsWithinCapacity}
use Rattle.cc_model.specs.Good.{IsGood}
use Rattle.cc_world.proofs.CrashSafe.{disks-safe, logs-safe}
use Rattle.cc_world.proofs.Fresh.{disks-end, logs-end}
use Rattle.cc_world.proofs.machine.Machine.into_all.Goals as goal
use Rattle.cc_turns.specs.Slots.{setup_in}

pub returns-clause-limit : goal.returns-clause-limit
returns-clause-limit g c = subst (λ w. w.journal.capacity ≡ w.begun.capacity) c.self.view_is c.self.invariant.0.journal.limits.0

pub returns-clause-disks : goal.returns-clause-disks
returns-clause-disks g c =
    subst (λ w. WorldDisksEnded (tells_of g.D.Told.told g.D.Told.faults g.L.LogFile.told g.L.LogFile.faults g.Q.PostRoutine.posted) w c.disks_of.result.items) c.self.view_is
    (disks-end _ _ c.disks_of.result.items c.self.invariant.0 c.disks_of.ensures)

pub returns-clause-logs : goal.returns-clause-logs
returns-clause-logs g c =
    subst (λ w. WorldLogsEnded (tells_of g.D.Told.told g.D.Told.faults g.L.LogFile.told g.L.LogFile.faults g.Q.PostRoutine.posted) w c.files_of.result.items) c.self.view_is
    (logs-end _ _ c.files_of.result.items c.self.invariant.0 c.files_of.ensures)

pub returns-clause-good : goal.returns-clause-good
returns-clause-good g c =
    subst (λ w. IsGood (setup_in (tells_of g.D.Told.told g.D.Told.faults g.L.LogFile.told g.L.LogFile.faults g.Q.PostRoutine.posted) w.begun) w.journal.entries) c.self.view_is c.self.invariant.0.journal.good

pub returns-clause-within : goal.returns-clause-within
returns-clause-within g c = subst (λ w. IsWithinCapacity w.begun.capacity w.journal.entries) c.self.view_is c.self.invariant.0.journal.within

pub returns-clause-crash : goal.returns-clause-crash
returns-clause-crash g c =
    let tells = tells_of g.D.Told.told g.D.Told.faults g.L.LogFile.told g.L.LogFile.faults g.Q.PostRoutine.posted in
    subst (λ w. DisksAreCrashSafe tells w.begun.disks w.journal.entries c.disks_of.result.items) c.self.view_is
    (subst (λ disks. DisksAreCrashSafe tells c.self.inside.begun.value.disks.items c.self.inside.journal.entries disks) (sym c.disks_of.ensures) (disks-safe _ _ c.self.invariant.0))

pub returns-clause-logged : goal.returns-clause-logged
returns-clause-logged g c =
    let tells = tells_of g.D.Told.told g.D.Told.faults g.L.LogFile.told g.L.LogFile.faults g.Q.PostRoutine.posted in
    subst (λ w. LogsAreDurable tells w.journal.entries c.files_of.result.items) c.self.view_is
    (subst (λ files. LogsAreDurable tells c.self.inside.journal.entries files) (sym c.files_of.ensures) (logs-safe _ _ c.self.invariant.0))
