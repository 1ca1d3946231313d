-- The two stages of a restart on the disks: the pages of each stream are redone, and then the record of each is written.
use Rattle.std.specs.Prelude.{◌≡◌, ◌≢◌, ℕ, ◌<◌, ◌≤◌, List, length, slice_get, ◌⊎◌}
use Rattle.std.specs.declared.option.Option.{Option}
use Rattle.std.specs.declared.option.Option.TheVariants.{Some}
use Rattle.cc_entry.specs.declared.error.CcError.{CcError}
use Rattle.cc_entry.specs.declared.error.CcError.TheVariants as error
use Rattle.cc_traits.specs.Told.{Both}
use Rattle.cc_traits.specs.Disk.{Disk}
use Rattle.cc_model.specs.Records.{record_page}
use Rattle.cc_redo.specs.declared.scan.ReadEntry.{ReadEntry}
use Rattle.cc_redo.specs.declared.redo.Redo.{Redo}
use Rattle.cc_redo.specs.Heard.{redone_of, redone_valid}
use Rattle.cc_redo.specs.Disks.{changed_page}
use Rattle.cc_redo.specs.Ends.{OneFailed}
use Rattle.cc_redo.specs.Scanned.{HoldsMadePages, IsSettleFault, DiskIsSettled, IsSettling, IsPartlyWritten}

-- the pages of a stream were redone, maybe not all
pub record RedonePagesLeft {D : Type 0} (told : D → Option Disk) (faults : D → ℕ) (from : ℕ) (entries : List ReadEntry) (redo : Redo)
    (was now : D) : Type 0 where
  pub writing : Both (told was) (told now) (λ old new. IsPartlyWritten (changed_page (redone_of redo from entries) old) old new)
  pub counted : faults was ≤ faults now

-- all were
pub record PagesDone {D : Type 0} (told : D → Option Disk) (faults : D → ℕ) (from : ℕ) (entries : List ReadEntry) (redo : Redo)
    (was now : D) : Type 0 where
  pub writing : Both (told was) (told now) (λ old new. IsPartlyWritten (changed_page (redone_of redo from entries) old) old new)
  pub holds : Both (told was) (told now) (λ old new. HoldsMadePages (changed_page (redone_of redo from entries) old) new)
  pub counted : faults now ≡ faults was

-- the record of a stream was written, or maybe not
pub record RedoneRecordLeft {D : Type 0} (told : D → Option Disk) (faults : D → ℕ) (entries : List ReadEntry) (redo : Redo) (was now : D)
    : Type 0 where
  pub settling : Both (told was) (told now)
      (λ old new. (new ≡ old) ⊎ IsSettling (record_page redo.size (redone_valid entries redo)) old new)
  pub counted : faults was ≤ faults now

-- it was, and the disk is settled
pub record RecordDone {D : Type 0} (told : D → Option Disk) (faults : D → ℕ) (entries : List ReadEntry) (redo : Redo) (was now : D)
    : Type 0 where
  pub settled : Both (told was) (told now) (DiskIsSettled (record_page redo.size (redone_valid entries redo)))
  pub counted : faults now ≡ faults was

-- why a stage was not done, where this holds of the disk that failed
abbrev pub IsStageRefusal : {D : Type 0} → (D → ℕ) → (CcError → Redo → D → D → Type 0) → List Redo → List D → List D → CcError → Type 0
IsStageRefusal faults P streams old new (error.ReadFault page) = OneFailed faults (P (error.ReadFault page)) streams old new
IsStageRefusal faults P streams old new (error.WriteFault page) = OneFailed faults (P (error.WriteFault page)) streams old new
IsStageRefusal faults P streams old new error.NoMemory = Unit {0}
IsStageRefusal faults P streams old new other = ⊥

-- what a fault says as the records are written
abbrev pub IsRecordFault : {D : Type 0} → (D → Option Disk) → CcError → Redo → D → D → Type 0
IsRecordFault told (error.WriteFault page) redo was now = IsSettleFault page (told was) (told now)
IsRecordFault told other redo was now = ⊥

-- The disks of the first n streams stand to what they were as is said, and all others are as they were.
pub record StageIsReached {D : Type 0} (streams : List Redo) (n : ℕ) (P : Redo → D → D → Type 0) (old now : List D) : Type 0 where
  pub behind : (i : ℕ) (redo : Redo) (was here : D) → i < n → slice_get streams i ≡ Some redo → slice_get old redo.disk ≡ Some was →
      slice_get now redo.disk ≡ Some here → P redo was here
  pub ahead : (i : ℕ) (redo : Redo) → n ≤ i → slice_get streams i ≡ Some redo → slice_get now redo.disk ≡ slice_get old redo.disk
  pub others : (k : ℕ) → ((i : ℕ) (redo : Redo) → slice_get streams i ≡ Some redo → redo.disk ≢ k) → slice_get now k ≡ slice_get old k
  pub count : length now ≡ length old
