-- What a disk stands for: the images of its stream's pages, what a crash may leave of them, its record page, and its failures.
use Rattle.std.specs.Prelude.{◌≡◌, ℕ, ◌+◌, ◌≤◌, Bool, true, false, not, ◌&&◌, ◌||◌, ◌==◌, List, [], ◌∷◌, Contains}
use Rattle.std.specs.declared.option.Option.{Option}
use Rattle.std.specs.declared.option.Option.TheVariants.{Some, None}
use Rattle.cc_entry.specs.declared.entry.Entry.{Entry}
use Rattle.cc_traits.specs.Disk.{Disk, page_of, may_of}
use Rattle.cc_traits.specs.Told.{Both}
use Rattle.cc_model.specs.History.{Effect, Ended, history}
use Rattle.cc_model.specs.Images.{image, open_of, crash_pages, Transfer}
use Rattle.cc_model.specs.Sizes.{ended_ok}
use Rattle.cc_effects.specs.Failures.{failures}
use Rattle.cc_turns.specs.RecordPage.{record_number, RecordHasGone}
use Rattle.cc_turns.specs.Standing.{DiskAtFirst}

-- the opening pages that a disk tells
abbrev pub opening_of : Option Disk → Option (ℕ → List ℕ)
opening_of None = None
opening_of (Some disk) = Some (page_of disk)

-- whether each transfer of a page that ended, ended well
unfoldable pub all_ended_well : List Effect → ℕ → Bool
all_ended_well [] p = true
all_ended_well (Ended pass page how ∷ h) p = (not (page == p) || ended_ok how) && all_ended_well h p
all_ended_well (other ∷ h) p = all_ended_well h p

-- whether a page is the one of the transfer, where there is one
abbrev pub is_transferred : Option Transfer → ℕ → Bool
is_transferred None p = false
is_transferred (Some transfer) p = transfer.page == p

-- A disk that tells its pages, and told others at first, has gone with its stream. What it is known to hold it
-- holds; and of a page that a crash could leave in one way alone at first, it can leave now what the disk holds of it,
-- only what the stream allows, and just that where every transfer of the page ended well. That is of each page but the
-- record page, of which the history of a stream says nothing.
pub record HasGone (h : List Effect) (opening now : Disk) : Type 0 where
  pub images : (p : ℕ) (bytes : List ℕ) → (p == record_number) ≡ false → image (page_of opening) h p ≡ Some bytes → page_of now p ≡ bytes
  pub among : (p : ℕ) → (p == record_number) ≡ false → may_of opening p ≡ page_of opening p ∷ [] →
      Contains (may_of now p) (page_of now p)
  pub crash : (p : ℕ) (content : List ℕ) → (p == record_number) ≡ false → may_of opening p ≡ page_of opening p ∷ [] →
      Contains (may_of now p) content → Contains (crash_pages (page_of opening) h p) content
  pub exact : (p : ℕ) → (p == record_number) ≡ false → may_of opening p ≡ page_of opening p ∷ [] →
      is_transferred (open_of h) p ≡ false → all_ended_well h p ≡ true → may_of now p ≡ crash_pages (page_of opening) h p

-- A disk stands for what a past says of its stream: its record page for the writes of the record, each other page for the
-- transfers of the page. Its count of faults rose at least by the failures that the past shows: where a page failed to be
-- read that need not come in any more, no entry says so. Of a disk under its turn the faults before the take that no entry
-- tells are not counted (`HeldDevice`).
pub record DiskStands {D : Type 0} (told : D → Option Disk) (faults : D → ℕ) (first : DiskAtFirst) (past : List Entry)
    (s : ℕ) (disk : D) : Type 0 where
  pub has_gone : Both first.told (told disk) (HasGone (history past s))
  pub record_has_gone : Both first.told (told disk) (RecordHasGone past s)
  pub counted : first.faults + failures s past ≤ faults disk
