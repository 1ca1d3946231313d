-- What a restart makes of a disk, and how a disk stands on which a restart stopped.
use Rattle.std.specs.Prelude.{◌≡◌, ℕ, ◌^◌, false, ◌==◌, List, [], ◌∷◌, Contains, ◌⊎◌, if◌then◌else◌}
use Rattle.cc_traits.specs.Disk.{Disk, page_of, may_of}
use Rattle.cc_model.specs.Records.{record_page}
use Rattle.cc_redo.specs.declared.scan.ReadEntry.{ReadEntry}
use Rattle.cc_redo.specs.declared.redo.Redo.{Redo}
use Rattle.cc_redo.specs.Heard.{Change, redone_of, redone_valid}
use Rattle.cc_redo.specs.Changes.{page_after}

-- the page of a disk that has the record of its stream, past every data page
abbrev pub record_number : ℕ
record_number = 2 ^ 51

-- what a restart makes of the pages of a stream's disk: the data pages as the changes leave them, and the record
abbrev pub changed_page : List Change → Disk → ℕ → List ℕ
changed_page changes disk page = page_after changes page (page_of disk page)

abbrev pub with_record : List ℕ → (ℕ → List ℕ) → ℕ → List ℕ
with_record told made page = if record_number == page then told else made page

abbrev pub page_made_by : Redo → ℕ → List ReadEntry → Disk → ℕ → List ℕ
page_made_by redo from entries disk page =
    with_record (record_page redo.size (redone_valid entries redo)) (changed_page (redone_of redo from entries) disk) page

-- each page holds what is made of it, and a crash leaves that alone
pub record DiskIsMade (made : ℕ → List ℕ) (disk : Disk) : Type 0 where
  pub holds : (page : ℕ) → page_of disk page ≡ made page
  pub may : (page : ℕ) → may_of disk page ≡ made page ∷ []

-- what a page held, or what a crash could have left of it
abbrev pub Was : Disk → ℕ → List ℕ → Type 0
Was old page bytes = Contains (may_of old page) bytes ⊎ (bytes ≡ page_of old page)

-- a page holds what a crash can leave of it
abbrev pub IsPossible : Disk → ℕ → Type 0
IsPossible disk page = Contains (may_of disk page) (page_of disk page)

-- Each page was left or made: what a crash can leave of it now it could leave before, or it was held, or it is what is made.
pub record IsLeftOrMade (made : ℕ → List ℕ) (old new : Disk) : Type 0 where
  pub holds : (page : ℕ) → IsPossible old page → IsPossible new page
  pub may : (page : ℕ) (bytes : List ℕ) → Contains (may_of new page) bytes → Was old page bytes ⊎ (bytes ≡ made page)

-- the record of the stream stands as it did
pub record RecordStands (old new : Disk) : Type 0 where
  pub holds : page_of new record_number ≡ page_of old record_number
  pub may : may_of new record_number ≡ may_of old record_number

-- all pages but the record are made, and a crash leaves that alone
abbrev pub DataIsMade : (ℕ → List ℕ) → Disk → Type 0
DataIsMade made disk =
    (page : ℕ) → (record_number == page) ≡ false → (page_of disk page ≡ made page) × (may_of disk page ≡ made page ∷ [])

-- A disk on which a restart stopped, at any of its calls. The record is written only where all other pages are settled.
pub record IsBetween (made : ℕ → List ℕ) (old new : Disk) : Type 0 where
  pub pages : IsLeftOrMade made old new
  pub ordered : RecordStands old new ⊎ DataIsMade made new
