-- The record page of a disk: what it holds for sure, and how it goes with the journal.
use Rattle.std.specs.Prelude.{◌≡◌, ℕ, ◌^◌, Bool, true, false, not, ◌&&◌, ◌||◌, ◌==◌, List, [], ◌∷◌, Contains, if◌then◌else◌}
use Rattle.std.specs.declared.option.Option.{Option}
use Rattle.std.specs.declared.option.Option.TheVariants.{Some, None}
use Rattle.cc_entry.specs.declared.entry.Entry.{Entry}
use Rattle.cc_entry.specs.declared.entry.Entry.TheVariants as entry
use Rattle.cc_traits.specs.Disk.{Disk, page_of, may_of}
use Rattle.cc_model.specs.Records.{record_page, crash_records}
use Rattle.cc_model.specs.Sizes.{ended_ok}

-- the number of the page that has the record of the disk's stream; the number of each data page is less
abbrev pub record_number : ℕ
record_number = 2 ^ 51

-- What the record page holds for sure: the spelling of the last write of the record, unknown where that did not end well;
-- the opening page where there was none.
unfoldable pub record_image : List ℕ → List Entry → ℕ → Option (List ℕ)
record_image opening [] s = Some opening
record_image opening (entry.Record pass stream size valid how ∷ past) s =
    elim (stream == s) [
      | true ↦ if ended_ok how then Some (record_page size valid) else None
      | false ↦ record_image opening past s
    ]
record_image opening (other ∷ past) s = record_image opening past s

-- whether each write of the record ended well
unfoldable pub all_records_stored : List Entry → ℕ → Bool
all_records_stored [] s = true
all_records_stored (entry.Record pass stream size valid how ∷ past) s =
    (not (stream == s) || ended_ok how) && all_records_stored past s
all_records_stored (other ∷ past) s = all_records_stored past s

-- The record page of a disk that tells its pages, and told others at first, has gone with the journal, as each other page
-- goes with the history of the stream. Where a crash could leave it in one way alone at first, it can leave now what the
-- disk holds of it, only what the writes of the record allow, and just that where each of them ended well.
pub record RecordHasGone (past : List Entry) (s : ℕ) (opening now : Disk) : Type 0 where
  pub holds : (bytes : List ℕ) → record_image (page_of opening record_number) past s ≡ Some bytes → page_of now record_number ≡ bytes
  pub among : may_of opening record_number ≡ page_of opening record_number ∷ [] →
      Contains (may_of now record_number) (page_of now record_number)
  pub crash : (content : List ℕ) → may_of opening record_number ≡ page_of opening record_number ∷ [] →
      Contains (may_of now record_number) content → Contains (crash_records (page_of opening record_number) past s) content
  pub exact : may_of opening record_number ≡ page_of opening record_number ∷ [] → all_records_stored past s ≡ true →
      may_of now record_number ≡ crash_records (page_of opening record_number) past s

-- Two pasts say the same of a stream's record page.
pub record SameRecord (past now : List Entry) (s : ℕ) : Type 0 where
  pub same_image : (opening : List ℕ) → record_image opening now s ≡ record_image opening past s
  pub same_crash : (opening : List ℕ) → crash_records opening now s ≡ crash_records opening past s
  pub same_stored : all_records_stored now s ≡ all_records_stored past s
