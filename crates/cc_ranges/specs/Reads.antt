-- What a noncached read leaves.
use Rattle.std.specs.Prelude.{ℕ, ◌+◌, ◌<◌, ◌/◌, Result, Ok, Err, List, length}
use Rattle.std.specs.List.{range_with_len}
use Rattle.cc_entry.specs.Place.{File}
use Rattle.cc_entry.specs.declared.call.Call.TheVariants as call
use Rattle.cc_entry.specs.declared.error.CcError.{CcError}
use Rattle.cc_effects.specs.Moments.{Between}
use Rattle.cc_effects.specs.Noncached.{NcReadLeft, PagesRead, PageReadsRefused}
use Rattle.cc_model.specs.Good.{IsGood}
use Rattle.cc_model.specs.Setup.{Setup}
use Rattle.cc_turns.specs.Standing.{Standing}
use Rattle.cc_writes.specs.Calls.{IsFullWriting}
use Rattle.cc_writes.specs.Fetch.{WentOn}
use Rattle.cc_ranges.specs.Answers.{KeepsBeyondRead, read_answer}
use Rattle.cc_ranges.specs.ReadVisits.{ReadEnded}
use Rattle.cc_ranges.specs.declared.error.NcError.{NcError}

-- Where a read from a page on finds the journal full, there is no room for the entry of the page that it refuses; or that
-- page is to be written first, and there is none for the begin of its transfer with the end.
abbrev pub IsFullRead : Standing → File → ℕ → Result ℕ NcError → Type 0
IsFullRead w file first (Ok n) = Unit {0}
IsFullRead w file first (Err e) = IsFullWriting {A = Unit {0}} (call.NcRead file (first + e.done)) w (Err e.cause)

-- A read into so many bytes was answered so: it left what explains its answer, page by page; what was handed in is as it
-- was beyond that; a journal that is full is full; the pass goes on as it stood and may call again, and what it has seen
-- stays good.
pub record NcReadEnds (old new : Standing) (file : File) (at : ℕ) (answer : Result ℕ NcError) (was now : List ℕ) : Type 0 where
  pub left : NcReadLeft old.setup old.number file at (length was) (read_answer answer now) old.seen new.seen
  pub rest : KeepsBeyondRead answer was now
  pub full : IsFullRead new file (at / 4096) answer
  pub goes_on : WentOn old new
  pub good : IsGood old.setup old.seen → IsGood old.setup new.seen

-- what the reads of so many pages leave, from this one on
abbrev pub PageReadsLeft : Setup → ℕ → File → ℕ → ℕ → Result (List ℕ) (ℕ × CcError) → Between
PageReadsLeft u me file first count (Ok bytes) old new = PagesRead u me file (range_with_len first count) bytes old new
PageReadsLeft u me file first count (Err failed) old new =
    (failed.0 < count) × PageReadsRefused u me file first failed.0 failed.1 old new

-- The same of a read whose place and length are in order, from the number of its first page on.
pub record PagesReadEnds (old new : Standing) (file : File) (first : ℕ) (answer : Result ℕ NcError) (was now : List ℕ)
    : Type 0 where
  pub left : PageReadsLeft old.setup old.number file first (length was / 4096) (read_answer answer now) old.seen new.seen
  pub rest : KeepsBeyondRead answer was now
  pub full : IsFullRead new file first answer
  pub goes_on : WentOn old new
  pub good : IsGood old.setup old.seen → IsGood old.setup new.seen

-- The same of one page.
pub record PageReadEnds (old new : Standing) (file : File) (page : ℕ) (answer : Result ℕ CcError) (was now : List ℕ)
    : Type 0 where
  pub ended : ReadEnded old.setup old.number file page answer old.seen new.seen was now
  pub full : IsFullWriting (call.NcRead file page) new answer
  pub goes_on : WentOn old new
  pub good : IsGood old.setup new.seen
