-- How a restart ends: what it leaves of the disks, and why it is refused.
use Rattle.std.specs.Prelude.{◌≡◌, ◌≢◌, ℕ, ◌+◌, ◌<◌, ◌≤◌, true, List, length, map, slice_get, ◌⊎◌, Result, Ok, Err}
use Rattle.std.specs.declared.option.Option.{Option}
use Rattle.std.specs.declared.option.Option.TheVariants.{Some}
use Rattle.cc_entry.specs.declared.error.CcError.{CcError}
use Rattle.cc_entry.specs.declared.error.CcError.TheVariants as error
use Rattle.cc_traits.specs.Told.{Both, IfTold}
use Rattle.cc_traits.specs.Disk.{Disk}
use Rattle.cc_traits.specs.Log.{Log}
use Rattle.cc_redo.specs.declared.redo.Redo.{Redo}
use Rattle.cc_redo.specs.declared.scan.ReadEntry.{ReadEntry}
use Rattle.cc_redo.specs.declared.streams.Restarted.{Restarted}
use Rattle.cc_redo.specs.Heard.{Change, readings, redone_of, from_of, last_lsn_of, all_updates, redone_valid}
use Rattle.cc_redo.specs.Changes.{is_changed}
use Rattle.cc_redo.specs.Disks.{DataIsMade, DiskIsMade, IsBetween, RecordStands, changed_page, page_made_by, record_number}
use Rattle.cc_redo.specs.Scanned.{HoldsMadePages}

-- no disk is given to two streams
abbrev pub DisksDiffer : List Redo → Type 0
DisksDiffer streams =
    (i j : ℕ) (one other : Redo) → slice_get streams i ≡ Some one → slice_get streams j ≡ Some other → one.disk ≡ other.disk → i ≡ j

-- the disk of each stream stands to what it was as is said, and each other disk is as it was
pub record EachDisk {D : Type 0} (streams : List Redo) (P : Redo → D → D → Type 0) (old new : List D) : Type 0 where
  pub given : (i : ℕ) (redo : Redo) (was now : D) → slice_get streams i ≡ Some redo → slice_get old redo.disk ≡ Some was →
      slice_get new redo.disk ≡ Some now → P redo was now
  pub others : (k : ℕ) → ((i : ℕ) (redo : Redo) → slice_get streams i ≡ Some redo → redo.disk ≢ k) → slice_get new k ≡ slice_get old k
  pub count : length new ≡ length old

-- what is made of each page of a stream's disk, by the entries of the log
abbrev pub made_by_log : List Redo → List ReadEntry → Redo → Disk → ℕ → List ℕ
made_by_log streams entries redo = page_made_by redo (from_of streams entries) entries

-- a restart that was done has made each disk, and one that was refused has left each so that it can be called again
abbrev pub LeavesBy : List Redo → List ReadEntry → Result Restarted CcError → Redo → Option Disk → Option Disk → Type 0
LeavesBy streams entries (Ok done) redo was now = Both was now (λ old new. DiskIsMade (made_by_log streams entries redo old) new)
LeavesBy streams entries (Err e) redo was now = Both was now (λ old new. IsBetween (made_by_log streams entries redo old) old new)

abbrev pub LeavesDisk : List Redo → Option Log → Result Restarted CcError → Redo → Option Disk → Option Disk → Type 0
LeavesDisk streams log answer redo was now = IfTold log (λ told. LeavesBy streams (readings told.entries) answer redo was now)

-- the numbers of the answer are those of the log
pub record IsAnswerOf (streams : List Redo) (entries : List ReadEntry) (answer : Restarted) : Type 0 where
  pub last : answer.last ≡ last_lsn_of entries
  pub updates : answer.updates ≡ all_updates streams entries
  pub valids : answer.valids.items ≡ map (redone_valid entries) streams

pub record IsRestartAnswer (streams : List Redo) (log : Log) (answer : Restarted) : Type 0 where
  pub numbers : IsAnswerOf streams (readings log.entries) answer
  pub short : length log.entries ≤ 4194304

-- a count of faults rises only where a restart is refused
abbrev pub IsCounted : {A : Type 0} → Result A CcError → ℕ → ℕ → Type 0
IsCounted (Ok done) was now = now ≡ was
IsCounted (Err e) was now = was ≤ now

-- by how much a refusal raises the log's count of faults
abbrev pub log_faults : {A : Type 0} → Result A CcError → ℕ
log_faults (Err (error.LogFault handle)) = 1
log_faults other = 0

-- the disk of a stream failed once, and this holds of it
abbrev pub OneFailed : {D : Type 0} → (D → ℕ) → (Redo → D → D → Type 0) → List Redo → List D → List D → Type 0
OneFailed {D} faults P streams old new =
    (i : ℕ) × (redo : Redo) × (was : D) × (now : D) × (slice_get streams i ≡ Some redo) × (slice_get old redo.disk ≡ Some was)
    × (slice_get new redo.disk ≡ Some now) × (faults now ≡ faults was + 1) × P redo was now

-- The page of a read that failed is one that the changes of the stream change. The disk is as it was: all of them are read before the
-- first is written.
abbrev pub IsReadFault : List Change → ℕ → Option Disk → Option Disk → Type 0
IsReadFault changes page was now = (is_changed changes page ≡ true) × (now ≡ was)

-- the pages are all made, and the record stands as it did
pub record AwaitsSync (changes : List Change) (old new : Disk) : Type 0 where
  pub holds : HoldsMadePages (changed_page changes old) new
  pub stands : RecordStands old new

-- The page of a write that failed is one that the changes change, and the record of the stream stands. A fault of page 0 may be that of
-- the first sync, where all pages are made; one of the page of the record is that of its write or of the sync behind it, where all other
-- pages are made and settled.
abbrev pub IsWriteFault : List Change → ℕ → Option Disk → Option Disk → Type 0
IsWriteFault changes page was now =
    ((is_changed changes page ≡ true) × Both was now RecordStands)
    ⊎ ((page ≡ 0) × Both was now (AwaitsSync changes))
    ⊎ ((page ≡ record_number) × Both was now (λ old new. DataIsMade (changed_page changes old) new))

-- what a fault of the disk of a stream says, by the entries of the log
abbrev pub IsFaultOf : {D : Type 0} → (D → Option Disk) → ℕ → List ReadEntry → CcError → Redo → D → D → Type 0
IsFaultOf told from entries (error.ReadFault page) redo was now = IsReadFault (redone_of redo from entries) page (told was) (told now)
IsFaultOf told from entries (error.WriteFault page) redo was now = IsWriteFault (redone_of redo from entries) page (told was) (told now)
IsFaultOf told from entries other redo was now = ⊥

abbrev pub IsFaultBy : {D : Type 0} → (D → Option Disk) → List Redo → Option Log → CcError → Redo → D → D → Type 0
IsFaultBy told streams log e redo was now =
    IfTold log (λ it. IsFaultOf told (from_of streams (readings it.entries)) (readings it.entries) e redo was now)

-- Why a restart is refused. A log that is too long, or that failed, is met before the first call of a disk.
abbrev pub IsRestartRefusal : {D : Type 0} → (D → Option Disk) → (D → ℕ) → List Redo → Option Log → List D → List D → CcError → Type 0
IsRestartRefusal told faults streams log old new (error.TooLong limit) =
    (limit ≡ 4194304) × IfTold log (λ it. 4194304 < length it.entries) × (new ≡ old)
IsRestartRefusal told faults streams log old new (error.LogFault handle) = (handle ≡ 255) × (new ≡ old)
IsRestartRefusal told faults streams log old new (error.ReadFault page) =
    OneFailed faults (IsFaultBy told streams log (error.ReadFault page)) streams old new
IsRestartRefusal told faults streams log old new (error.WriteFault page) =
    OneFailed faults (IsFaultBy told streams log (error.WriteFault page)) streams old new
IsRestartRefusal told faults streams log old new error.NoMemory = Unit {0}
IsRestartRefusal told faults streams log old new other = ⊥
