-- With nothing held every disk and log is at home, and stands for the journal that comes back.
use Rattle.std.proofs.Common.{◌≡◌, refl, subst, ap, ◌∙◌}
use Rattle.cc_log.specs.Turn.{LogTurnState}
use Rattle.cc_turns.specs.Crash.{IsCrashSafe}
use Rattle.cc_turns.specs.Desk.{DeskDisksEnded, DeskLogsEnded, tells_of}
use Rattle.cc_turns.proofs.RowSteps.{all_home}
use Rattle.cc_turns.proofs.DeskSteps.{seen_good, seen_within}
use Rattle.cc_turns.proofs.Fresh.{disks_end, logs_end}
use Rattle.cc_turns.proofs.CrashSafe.{desk_safe, row_home, files_home}
use Rattle.cc_turns.proofs.desk.Desk.into_all.Goals as goal

pub back_to-requires-clause-home : goal.back_to-requires-clause-home
back_to-requires-clause-home g c =
    all_home _ _ _ (ap (λ d. d.held.device) c.self.view_is ∙ ap (λ held. held.device) c.requires) c.self.invariant.0.disks_are

pub back_to_logs-requires-clause-home : goal.back_to_logs-requires-clause-home
back_to_logs-requires-clause-home g c =
    all_home _ _ _ (ap (λ d. d.held.log) c.self.view_is ∙ ap (λ held. held.log) c.requires) c.self.invariant.0.logs_are

pub returns-clause-crash : goal.returns-clause-crash
returns-clause-crash g c =
    subst (λ d. IsCrashSafe (tells_of g.D.Told.told g.D.Told.faults g.L.LogFile.told g.L.LogFile.faults g.Q.PostRoutine.posted) d) c.self.view_is
    (desk_safe _ _ c.self.inside.disks.items _ c.self.inside.logs.items _ (ap (λ d. d.held) c.self.view_is ∙ c.requires) refl refl c.self.invariant.0)

pub returns-clause-same : goal.returns-clause-same
returns-clause-same g c = (
  row_home c.back_to.result.items c.self.inside.disks.items c.back_to.ensures ∙ ap (λ d. d.disks) c.self.view_is,
  files_home (λ (log : LogTurnState g.row.L.Denot). log.file) c.back_to_logs.result.items c.self.inside.logs.items c.back_to_logs.ensures ∙ ap (λ d. d.logs) c.self.view_is,
)

pub returns-clause-disks : goal.returns-clause-disks
returns-clause-disks g c =
    subst (λ d. DeskDisksEnded g.D.Told.told g.D.Told.faults d c.back_to.result.items) c.self.view_is
    (disks_end g.D.Told.told g.D.Told.faults _ c.self.inside.disks.items c.back_to.result.items _ c.self.invariant.0.disks_are c.back_to.ensures)

pub returns-clause-logs : goal.returns-clause-logs
returns-clause-logs g c =
    subst (λ d. DeskLogsEnded g.L.LogFile.told g.L.LogFile.faults d c.back_to_logs.result.items) c.self.view_is
    (logs_end g.L.LogFile.told g.L.LogFile.faults _ c.self.inside.logs.items c.back_to_logs.result.items _ c.self.invariant.0.logs_are c.back_to_logs.ensures)

pub returns-clause-good : goal.returns-clause-good
returns-clause-good g c = seen_good _ _ _ _ _ _ _ c.self.view_is c.self.invariant.0

pub returns-clause-within : goal.returns-clause-within
returns-clause-within g c = seen_within _ _ _ _ _ _ _ c.self.view_is c.self.invariant.0

pub returns-clause-capacity : goal.returns-clause-capacity
returns-clause-capacity g c = subst (λ d. d.last.capacity ≡ d.begun.capacity) c.self.view_is c.self.invariant.0.journal_was.capacity_is
