-- The disks that a run gives back.
use Rattle.std.specs.Prelude.{◌≡◌, ℕ, ◌+◌, ◌≤◌, List, length, slice_get, drop}
use Rattle.std.specs.declared.option.Option.{Option}
use Rattle.std.specs.declared.option.Option.TheVariants.{Some}
use Rattle.cc_entry.specs.declared.entry.Entry.{Entry}
use Rattle.cc_traits.specs.Disk.{Disk}
use Rattle.cc_traits.specs.Told.{Both}
use Rattle.cc_model.specs.History.{history}
use Rattle.cc_effects.specs.Failures.{failures}
use Rattle.cc_turns.specs.Standing.{DiskAtFirst}
use Rattle.cc_turns.specs.Disk.{DiskStands, HasGone}
use Rattle.cc_turns.specs.RecordPage.{RecordHasGone}
use Rattle.cc_program.specs.Setups.{run_disks}

-- a relation of each item of a row as it was handed in and as it came back, with its number: of each disk with that of
-- its stream, of each log with its handle
abbrev pub Pairwise : {D : Type 0} → (ℕ → D → D → Type 0) → List D → List D → Type 0
Pairwise {D} R old new = (s : ℕ) (before after : D) → slice_get old s ≡ Some before → slice_get new s ≡ Some after → R s before after

-- a disk that tells its pages has gone with its stream: it holds each page's image, where that is known
abbrev pub DiskWentWith : {D : Type 0} → (D → Option Disk) → List Entry → ℕ → D → D → Type 0
DiskWentWith told past s before after = Both (told before) (told after) (HasGone (history past s))

-- its record page has gone with the journal: it holds what the last write of the stream's record spelled, where that ended
-- well, and its opening content where there was none
abbrev pub RecordWentWith : {D : Type 0} → (D → Option Disk) → List Entry → ℕ → D → D → Type 0
RecordWentWith told past s before after = Both (told before) (told after) (RecordHasGone past s)

-- As many disks come back, in their order. Those of the run have gone with their streams, their record pages too, and the
-- others are as they were.
pub record DisksAre {D : Type 0} (told : D → Option Disk) (past : List Entry) (old new : List D) : Type 0 where
  pub count : length new ≡ length old
  pub went : Pairwise (DiskWentWith told past) (run_disks old) (run_disks new)
  pub records : Pairwise (RecordWentWith told past) (run_disks old) (run_disks new)
  pub rest : drop 16 new ≡ drop 16 old

-- no count of faults fell
abbrev pub HaveRisen : {D : Type 0} → (D → ℕ) → List D → List D → Type 0
HaveRisen faults old new = Pairwise (λ s before after. faults before ≤ faults after) old new

-- the count of faults of each disk of the run rose at least by the failures of it that the past shows
abbrev pub AreCounted : {D : Type 0} → (D → ℕ) → List Entry → List D → List D → Type 0
AreCounted faults past old new =
    Pairwise (λ s before after. faults before + failures s past ≤ faults after) (run_disks old) (run_disks new)

-- The disks of a run stand for a past, each having begun so.
pub record DisksStand {D : Type 0} (told : D → Option Disk) (faults : D → ℕ) (first : ℕ → DiskAtFirst) (count : ℕ)
    (past : List Entry) (disks : List D) : Type 0 where
  pub counted : length disks ≡ count
  pub each : (s : ℕ) (disk : D) → slice_get disks s ≡ Some disk → DiskStands told faults (first s) past s disk

-- What a run left of the disks that it was handed in, by a past: each of the run has gone with its stream, its count of
-- faults rose at least by the failures that the past shows, and no count fell.
pub record DisksLeft {D : Type 0} (told : D → Option Disk) (faults : D → ℕ) (past : List Entry) (old new : List D) : Type 0 where
  pub are : DisksAre told past old new
  pub counted : AreCounted faults past old new
  pub risen : HaveRisen faults old new
