-- A World that stands is safe from a crash: its disks have gone with their streams, and its logs are durable to what was stamped on
-- each page as a transfer of it began.
use Rattle.std.specs.Prelude.{◌≡◌, ℕ, List, slice_get}
use Rattle.std.specs.declared.option.Option.{Option}
use Rattle.std.specs.declared.option.Option.TheVariants.{Some, None}
use Rattle.std.proofs.Common.{sym, subst, ◌∙◌}
use Rattle.std.proofs.lemmas.Option.{slice_get-map}
use Rattle.cc_entry.specs.declared.entry.Entry.{Entry}
use Rattle.cc_log.specs.Turn.{LogTurnState}
use Rattle.cc_traits.specs.Disk.{Disk}
use Rattle.cc_traits.specs.Told.{IfTold}
use Rattle.cc_turns.specs.Crash.{DiskIsCrashSafe, DisksAreCrashSafe, IsDurableForBegins, LogsAreDurable}
use Rattle.cc_turns.specs.Desk.{Tells, disk_at_first, log_at_first}
use Rattle.cc_turns.specs.Disk.{DiskStands}
use Rattle.cc_turns.specs.Standing.{DiskAtFirst}
use Rattle.cc_turns.proofs.CrashSafe.{disk_safe, file_safe}
use Rattle.cc_world.specs.Crash.{disks_in, files_in}
use Rattle.cc_world.specs.Rows.{DiskIsUsed}
use Rattle.cc_world.specs.World.{WorldStands, WorldState}
use Rattle.cc_world.specs.declared.rows.BegunTransfer.{BegunTransfer}
use Rattle.cc_world.specs.declared.rows.StreamRow.{StreamRow}
use Rattle.cc_world.proofs.Fresh.{row-at, log-at}

-- a disk that is used stands, at rest or with a transfer open
used-stands : {D : Type 0} (told : D → Option Disk) (faults : D → ℕ) (first : DiskAtFirst) (past : List Entry) (s : ℕ) (disk : D) (kept : Option BegunTransfer) → DiskIsUsed told faults first past s disk kept → DiskStands told faults first past s disk
used-stands told faults first past s disk None rest = rest.stands
used-stands told faults first past s disk (Some kept) carrying = carrying.way.stands

pub disks-safe : {D L Q : Type 0} (tells : Tells D L Q) (w : WorldState D L Q) → WorldStands tells w → DisksAreCrashSafe tells w.begun.disks w.journal.entries (disks_in w)
disks-safe {D} tells w stands s disk is = safe (row-at (slice_get w.rows s) disk (sym is ∙ slice_get-map (λ (row : StreamRow D). row.disk) w.rows s))
  where
    safe : (row : StreamRow D) × (slice_get w.rows s ≡ Some row) × (row.disk ≡ disk) → DiskIsCrashSafe tells w.begun.disks w.journal.entries s disk
    safe (row, there, same) =
        let home = stands.rows.each s row there in
        let first = disk_at_first tells.disk tells.disk_faults (slice_get w.begun.disks s) in
        let stood = subst (λ (n : ℕ). DiskStands tells.disk tells.disk_faults first w.journal.entries n row.disk) home.stream
        (used-stands tells.disk tells.disk_faults first w.journal.entries row.book.stream row.disk row.kept home.stands.disk) in
        subst (λ (d : D). DiskIsCrashSafe tells w.begun.disks w.journal.entries s d) same (disk_safe tells w.begun.disks w.journal.entries s row.disk stood)

pub logs-safe : {D L Q : Type 0} (tells : Tells D L Q) (w : WorldState D L Q) → WorldStands tells w → LogsAreDurable tells w.journal.entries (files_in w)
logs-safe {L} tells w stands handle file is = safe (log-at (slice_get w.logs handle) file (sym is ∙ slice_get-map (λ (log : LogTurnState L). log.file) w.logs handle))
  where
    safe : (log : LogTurnState L) × (slice_get w.logs handle ≡ Some log) × (log.file ≡ file) → IfTold (tells.log file) (IsDurableForBegins w.journal.entries handle)
    safe (log, there, same) =
        let home = stands.logs.each handle log there in
        file_safe tells.log tells.log_faults (log_at_first tells.log tells.log_faults (slice_get w.begun.logs handle)) w.journal.entries handle file
        stands.journal.good.covered (log, home.stands, home.handle_is, same)
