-- What a noncached write leaves.
use Rattle.std.specs.Prelude.{ℕ, ◌+◌, ◌/◌, ◌<◌, Result, Ok, Err, OnOk, List, length}
use Rattle.cc_entry.specs.Place.{File}
use Rattle.cc_entry.specs.declared.error.CcError.{CcError}
use Rattle.cc_effects.specs.Moments.{AtSome, Between}
use Rattle.cc_effects.specs.Noncached.{NcWriteLeft, PagesWritten, PageWritesRefused}
use Rattle.cc_model.specs.Good.{IsGood}
use Rattle.cc_model.specs.Setup.{Setup}
use Rattle.cc_turns.specs.Standing.{Standing}
use Rattle.cc_writes.specs.Fetch.{WentOn}
use Rattle.cc_ranges.specs.Answers.{write_of}
use Rattle.cc_ranges.specs.Ends.{IsTidyEnd}
use Rattle.cc_ranges.specs.Stores.{IsFullStoring}
use Rattle.cc_ranges.specs.WriteHeld.{WriteOfPageLeft}
use Rattle.cc_ranges.specs.declared.error.NcError.{NcError}
use Rattle.cc_ranges.specs.ReadVisits.{file_page}

-- Where a write from a page on finds the journal full, the write of the page that it refuses does.
abbrev pub IsFullWrite : Standing → File → ℕ → Result ℕ NcError → Type 0
IsFullWrite w file first (Ok count) = Unit {0}
IsFullWrite w file first (Err e) = IsFullStoring {A = Unit {0}} file (file_page file (first + e.done)) w (Err e.cause)

-- how many pages of a write of so many bytes were written
abbrev pub written_of : ℕ → Result ℕ NcError → ℕ
written_of len (Ok count) = len / 4096
written_of len (Err e) = e.done

-- Each page that was written, from this one on, left at a moment the page idle only where, as it was stored, there was no room
-- for it to go out.
abbrev pub AreTidied : Standing → Standing → File → ℕ → ℕ → Type 0
AreTidied old new file first count =
    (k : ℕ) → k < count →
    AtSome (IsTidyEnd old.setup old.most_others old.number file (file_page file (first + k)) old.seen) old.seen new.seen

-- A write of these bytes was answered so: it left what explains its answer, page by page; a journal that is full is
-- full; the pass goes on as it stood, and what it has seen stays good. Where a transfer failed or found no memory, the
-- store of its page stands.
pub record NcWriteEnds (old new : Standing) (file : File) (at : ℕ) (piece : List ℕ) (answer : Result ℕ NcError) : Type 0 where
  pub left : NcWriteLeft old.setup old.number file at piece (write_of answer) old.seen new.seen
  pub tidied : AreTidied old new file (at / 4096) (written_of (length piece) answer)
  pub full : IsFullWrite new file (at / 4096) answer
  pub goes_on : WentOn old new
  pub good : IsGood old.setup old.seen → IsGood old.setup new.seen

-- what the writes of so many pages leave, from this one on
abbrev pub PageWritesLeft : Setup → ℕ → File → ℕ → ℕ → List ℕ → Result ℕ (ℕ × CcError) → Between
PageWritesLeft u me file first count bytes (Ok changed) old new = PagesWritten me file first count bytes changed old new
PageWritesLeft u me file first count bytes (Err failed) old new =
    (failed.0 < count) × PageWritesRefused u me file first failed.0 bytes failed.1 old new

-- The same of a write whose place and length are in order, from the number of its first page on.
pub record PagesWriteEnds (old new : Standing) (file : File) (first : ℕ) (piece : List ℕ) (answer : Result ℕ NcError) : Type 0 where
  pub left : PageWritesLeft old.setup old.number file first (length piece / 4096) piece (write_of answer) old.seen new.seen
  pub tidied : AreTidied old new file first (written_of (length piece) answer)
  pub full : IsFullWrite new file first answer
  pub goes_on : WentOn old new
  pub good : IsGood old.setup old.seen → IsGood old.setup new.seen

-- The same of one page.
pub record PageWriteEnds (old new : Standing) (file : File) (page : ℕ) (bytes : List ℕ) (answer : Result ℕ CcError) : Type 0 where
  pub left : WriteOfPageLeft old.setup old.number file page bytes answer old.seen new.seen
  pub tidy : OnOk answer (IsTidyEnd old.setup old.most_others old.number file (file_page file page) old.seen new.seen)
  pub full : IsFullStoring file (file_page file page) new answer
  pub goes_on : WentOn old new
  pub good : IsGood old.setup new.seen
