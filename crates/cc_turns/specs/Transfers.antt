-- What a read of a page, a transfer of one and a sync may rest on, and what they leave in the journal.
use Rattle.std.specs.Prelude.{◌≡◌, ℕ, ◌+◌, ◌*◌, ◌^◌, ◌<◌, Bool, true, false, not, ◌||◌, ◌==◌, List, ◌∷◌, ◌++◌, length, slice_index, Result, Ok, Err}
use Rattle.std.specs.declared.option.Option.{Option}
use Rattle.std.specs.declared.option.Option.TheVariants.{None}
use Rattle.std.specs.List.{list_all}
use Rattle.cc_entry.specs.declared.entry.Entry.{Entry}
use Rattle.cc_entry.specs.declared.entry.Entry.TheVariants as entry
use Rattle.cc_entry.specs.declared.entry.End.{End}
use Rattle.cc_entry.specs.declared.entry.End.TheVariants as how
use Rattle.cc_traits.specs.Disk.{Disk}
use Rattle.cc_traits.specs.declared.stop.Stop.{Stop}
use Rattle.cc_traits.specs.declared.stop.Stop.TheVariants as stop
use Rattle.cc_content.specs.Contents.{IsByteOfContents}
use Rattle.cc_model.specs.Good.{IsGoodSoFar}
use Rattle.cc_model.specs.History.{history}
use Rattle.cc_model.specs.Images.{open_of}
use Rattle.cc_model.specs.Residency.{is_resident}
use Rattle.cc_model.specs.Setup.{Setup}
use Rattle.cc_model.specs.Sizes.{ended_ok}
use Rattle.cc_turns.specs.Standing.{DiskAtFirst}
use Rattle.cc_turns.specs.Disk.{DiskStands, opening_of}

-- A page may be read for what the plain file has of it: the disk stands for a good past, in which the page is not
-- resident. So it is not dirty either, and what the disk holds of it is known.
pub record CanRead {D : Type 0} (told : D → Option Disk) (faults : D → ℕ) (u : Setup) (first : DiskAtFirst)
    (past : List Entry) (s page : ℕ) (disk : D) : Type 0 where
  pub stands : DiskStands told faults first past s disk
  pub good : IsGoodSoFar u past
  pub absent : is_resident (history past s) page ≡ false

-- A data page may be transferred: the disk stands for what was before the transfer began, when no other was under way,
-- and the bytes are a whole page, as the page then was.
pub record CanTransfer {D : Type 0} (told : D → Option Disk) (faults : D → ℕ) (first : DiskAtFirst)
    (before : List Entry) (s page : ℕ) (bytes : List ℕ) (disk : D) : Type 0 where
  pub stands : DiskStands told faults first before s disk
  pub numbered : page < 2 ^ 51
  pub at_rest : open_of (history before s) ≡ None
  pub whole : length bytes ≡ 4096
  pub bytes_are : (i : ℕ) → i < 4096 →
      IsByteOfContents (opening_of first.told) (history before s) (4096 * page + i) (slice_index bytes i)

-- Whether an entry changes neither which transfer of the stream is open, nor an image of its pages, nor what a crash
-- may leave of them: it begins and ends no transfer of the stream, and is no good sync of it.
abbrev pub leaves_transfer : ℕ → Entry → Bool
leaves_transfer s (entry.WriteBegin pass page) = not (page.stream == s)
leaves_transfer s (entry.WriteEnd pass page how) = not (page.stream == s)
leaves_transfer s (entry.Sync pass stream how) = not (stream == s) || not (ended_ok how)
leaves_transfer s other = true

-- A transfer of a page is under way: a pass began it, and the entries since leave it so. The disk stands for the past.
-- It was not written since the begin, so the page may be transferred to it as before that.
pub record TransferIsUnderWay {D : Type 0} (told : D → Option Disk) (faults : D → ℕ) (first : DiskAtFirst)
    (past : List Entry) (pass s page : ℕ) (bytes : List ℕ) (disk : D) : Type 0 where
  pub stands : DiskStands told faults first past s disk
  pub before : List Entry
  pub later : List Entry
  pub began : past ≡ later ++ entry.WriteBegin pass (record { stream = s; page = page }) ∷ before
  pub left : list_all (leaves_transfer s) later ≡ true
  pub can : CanTransfer told faults first before s page bytes disk

-- the entry of a pass for a page that the disk failed to read
abbrev pub fill_failed : ℕ → ℕ → ℕ → Entry
fill_failed pass s page = entry.FillFailed pass (record { stream = s; page = page })

-- The past after a transfer of a page by a pass that ended so: its begin, then what others placed meanwhile, then
-- its end.
abbrev pub transferred : ℕ → ℕ → ℕ → End → List Entry → List Entry → List Entry
transferred pass s page how later before =
    entry.WriteEnd pass (record { stream = s; page = page }) how
    ∷ (later ++ entry.WriteBegin pass (record { stream = s; page = page }) ∷ before)

-- The past after a sync by a pass that ended so: what others placed meanwhile, then its entry.
abbrev pub synced : ℕ → ℕ → End → List Entry → List Entry → List Entry
synced pass s how later before = entry.Sync pass s how ∷ (later ++ before)

-- how a transfer or a sync ended that the disk answered so
abbrev pub transfer_end : Result (Unit {0}) Stop → End
transfer_end (Ok done) = how.Good
transfer_end (Err stop.Failed) = how.Failed
transfer_end (Err stop.NoMemory) = how.NoMemory

-- by how much a transfer or a sync that ended so raises its disk's count of faults: by one exactly where it failed
abbrev pub transfer_faults : End → ℕ
transfer_faults how.Good = 0
transfer_faults how.Failed = 1
transfer_faults how.NoMemory = 0
