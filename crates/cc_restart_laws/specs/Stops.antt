-- What a stop leaves of a log, what a restart is given, and what the file is then.
use Rattle.std.specs.Prelude.{◌≡◌, ℕ, ◌+◌, ◌*◌, ◌/◌, ◌%◌, ◌<◌, ◌≤◌, nat_lt, true, max, List, [], ◌∷◌, ◌++◌, fold, slice_index, if◌then◌else◌}
use Rattle.std.specs.List.{AllByRecursion, filter_map}
use Rattle.cc_entry.specs.declared.entry.Entry.{Entry}
use Rattle.cc_model.specs.History.{history}
use Rattle.cc_model.specs.Objects.{had_map}
use Rattle.cc_model.specs.Records.{first_valid, is_settled}
use Rattle.cc_model.specs.Touches.{size_of}
use Rattle.cc_traits.specs.Log.{LogEntry}
use Rattle.cc_redo.specs.Changes.{byte_after, page_after}
use Rattle.cc_redo.specs.Heard.{Change, change_said, end_of_change, from_of, readings, redone_of, redone_valid}
use Rattle.cc_redo.specs.Reading.{said_by}
use Rattle.cc_redo.specs.declared.redo.Redo.{Redo}

-- each entry of a log has a lower LSN than those behind it
abbrev pub AreAscending : List LogEntry → Type 0
AreAscending [] = Unit {0}
AreAscending (entry ∷ entries) = AllByRecursion (λ later. entry.lsn < later.lsn) entries × AreAscending entries

-- The log keeps the first of its entries, all that are durable among them.
pub record LogKeeps (durable : ℕ) (all kept : List LogEntry) : Type 0 where
  pub rest : List LogEntry
  pub splits : all ≡ kept ++ rest
  pub beyond : AllByRecursion (λ entry. durable < entry.lsn) rest

-- So of a log that had entries before, which are all durable: what it keeps begins with them.
pub record LogKeepsBehind (durable : ℕ) (begun appended all : List LogEntry) : Type 0 where
  pub kept : List LogEntry
  pub is : all ≡ begun ++ kept
  pub keeps : LogKeeps durable appended kept

-- A stream is given to a restart with its size, and with a valid data length that it may be told to have: that of its first
-- initialise, or one that a record of it told since.
pub record IsGivenAs (s first : ℕ) (past : List Entry) (redo : Redo) : Type 0 where
  pub stream : redo.stream ≡ s
  pub size : had_map (history past s) ≡ true → redo.size ≡ size_of (history past s)
  pub opened : had_map (history past s) ≡ true → first_valid (history past s) ≡ first
  pub least : first ≤ redo.valid
  pub told : (p : ℕ) → first < redo.valid → first < 4096 * p + 4096 → 4096 * p < redo.valid → is_settled (history past s) p ≡ true

-- the pages as the restart makes them of these
abbrev pub pages_redone : List Redo → List LogEntry → Redo → (ℕ → List ℕ) → ℕ → List ℕ
pages_redone streams kept redo disk page = page_after (redone_of redo (from_of streams (readings kept)) (readings kept)) page (disk page)

-- the byte at i of a file with these pages and this valid data length, from which on every byte is zero
abbrev pub file_byte : (ℕ → List ℕ) → ℕ → ℕ → ℕ
file_byte pages valid i = if nat_lt i valid then slice_index (pages (i / 4096)) (i % 4096) else 0

-- the updates of the stream among the entries of a log, in their order
abbrev pub updates_in : Redo → List LogEntry → List Change
updates_in redo entries = filter_map (λ entry. change_said redo (said_by entry.bytes)) entries

-- the valid data length as changes raise it
abbrev pub valid_after_changes : List Change → ℕ → ℕ
valid_after_changes changes valid = fold (λ reached change. max reached (end_of_change change)) valid changes

-- the byte at i of that file as changes leave it that are applied whole, in their order
abbrev pub updated_byte : (ℕ → List ℕ) → ℕ → List Change → ℕ → ℕ
updated_byte pages valid changes i =
    if nat_lt i (valid_after_changes changes valid) then byte_after changes (i / 4096) (i % 4096) (file_byte pages valid i) else 0

-- the byte at i of the file that a restart makes of these pages
abbrev pub redone_byte : List Redo → List LogEntry → Redo → (ℕ → List ℕ) → ℕ → ℕ
redone_byte streams kept redo disk i = file_byte (pages_redone streams kept redo disk) (redone_valid (readings kept) redo) i

-- a restart makes the file of a page that holds these bytes
abbrev pub MakesFile : List Redo → List LogEntry → Redo → (ℕ → List ℕ) → ℕ → ℕ → List ℕ → Type 0
MakesFile streams kept redo pages first page bytes =
    (i : ℕ) → i / 4096 ≡ page → redone_byte streams kept redo (λ p. bytes) i ≡ updated_byte pages first (updates_in redo kept) i

-- The log had entries as the run began, all with lower LSNs than those that the run appended, and a restart had made the opening
-- file of them: that of the old pages and the old valid data length, with their updates applied.
pub record HadBegun (redo : Redo) (begun appended : List LogEntry) (pages : ℕ → List ℕ) (first : ℕ) (old_pages : ℕ → List ℕ) (old_first : ℕ)
    : Type 0 where
  pub ascending : AreAscending (begun ++ appended)
  pub valid : valid_after_changes (updates_in redo begun) old_first ≤ first
  pub file : (i : ℕ) → i < redo.size → file_byte pages first i ≡ updated_byte old_pages old_first (updates_in redo begun) i
