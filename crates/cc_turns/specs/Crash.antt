-- What a crash may leave of the disks of a run, and what of its logs no crash takes away.
use Rattle.std.specs.Prelude.{◌≡◌, ℕ, ◌≤◌, List, ◌∷◌, ◌++◌, length, slice_get}
use Rattle.std.specs.declared.option.Option.TheVariants.{Some}
use Rattle.cc_entry.specs.declared.entry.Entry.{Entry}
use Rattle.cc_entry.specs.declared.entry.Entry.TheVariants as entry
use Rattle.cc_traits.specs.Log.{Log}
use Rattle.cc_traits.specs.Told.{Both, IfTold}
use Rattle.cc_model.specs.History.{history}
use Rattle.cc_model.specs.Settings.{log_of}
use Rattle.cc_model.specs.Stamps.{newest_of}
use Rattle.cc_turns.specs.Desk.{DeskState, Tells, disk_at_first}
use Rattle.cc_turns.specs.Disk.{HasGone}
use Rattle.cc_turns.specs.RecordPage.{RecordHasGone}

-- Of the disk of a stream, where it tells its pages and told them at first: each content that a crash may leave of a page is among
-- those that the journal allows, and all of those are where no transfer of the page is open and each one that ended, ended well
-- (fields `crash` and `exact` of `HasGone`, and of `RecordHasGone` for the page of the record).
pub record DiskIsCrashSafe {D L Q : Type 0} (tells : Tells D L Q) (begun : List D) (past : List Entry) (s : ℕ) (disk : D)
    : Type 0 where
  pub pages : Both (disk_at_first tells.disk tells.disk_faults (slice_get begun s)).told (tells.disk disk) (HasGone (history past s))
  pub record_page : Both (disk_at_first tells.disk tells.disk_faults (slice_get begun s)).told (tells.disk disk) (RecordHasGone past s)

-- So is each of these disks, which began a run as those.
abbrev pub DisksAreCrashSafe : {D L Q : Type 0} → Tells D L Q → List D → List Entry → List D → Type 0
DisksAreCrashSafe {D} tells begun past disks =
    (s : ℕ) (disk : D) → slice_get disks s ≡ Some disk → DiskIsCrashSafe tells begun past s disk

-- Wherever a transfer began in a past of a page whose stream had this log, the log is durable to the newest LSN that the page then had.
abbrev pub IsDurableForBegins : List Entry → ℕ → Log → Type 0
IsDurableForBegins past handle log =
    (later front : List Entry) (pass s p lsn : ℕ) →
    past ≡ later ++ entry.WriteBegin pass (record { stream = s; page = p }) ∷ front →
    log_of (history front s) ≡ Some handle → newest_of (history front s) p ≡ Some lsn → lsn ≤ log.durable

-- So is each of these logs that tells what it holds.
abbrev pub LogsAreDurable : {D L Q : Type 0} → Tells D L Q → List Entry → List L → Type 0
LogsAreDurable {L = L} tells past files =
    (handle : ℕ) (file : L) → slice_get files handle ≡ Some file → IfTold (tells.log file) (IsDurableForBegins past handle)

-- A desk has every disk and every log of its run, with its whole journal: of the disks a crash leaves what the journal allows, and the
-- logs are durable for each transfer that began.
pub record IsCrashSafe {D L Q : Type 0} (tells : Tells D L Q) (d : DeskState D L Q) : Type 0 where
  pub all : (length d.disks ≡ length d.begun.disks) × (length d.logs ≡ length d.begun.logs)
  pub disks : DisksAreCrashSafe tells d.begun.disks d.last.entries d.disks
  pub logs : LogsAreDurable tells d.last.entries d.logs
