-- The steps of a page of a noncached read on its book: what it does next, and how it ends.
use Rattle.std.specs.Prelude.{◌≡◌, ℕ, ◌+◌, ◌-◌, ◌*◌, ◌<◌, Bool, true, false, List, []}
use Rattle.std.specs.declared.option.Option.TheVariants.{None}
use Rattle.cc_entry.specs.Place.{File}
use Rattle.cc_entry.specs.declared.call.Call.TheVariants as call
use Rattle.cc_entry.specs.declared.error.CcError.TheVariants as error
use Rattle.cc_entry.specs.declared.reply.Reply.{Reply}
use Rattle.cc_entry.specs.declared.reply.Reply.TheVariants as reply
use Rattle.cc_book.specs.Book.{BookState}
use Rattle.cc_book.specs.Noncached.{WasRead}
use Rattle.cc_effects.specs.Calls.{has_no_write}
use Rattle.cc_step.specs.Fill.{MayFill, book_page}
use Rattle.cc_journal.specs.Journal.{JournalState}
use Rattle.cc_model.specs.History.{history}
use Rattle.cc_model.specs.Refusals.{refusal}
use Rattle.cc_model.specs.Setup.{Setup}
use Rattle.cc_model.specs.Touches.{size_of}
use Rattle.cc_step.specs.Step.{AttemptDone, AttemptRefused, IsStop, FoundNone}
use Rattle.cc_ranges.specs.declared.read_steps.ReadNext.{ReadNext}
use Rattle.cc_ranges.specs.declared.read_steps.ReadNext.TheVariants as next
use Rattle.cc_ranges.specs.declared.read_steps.ReadEnd.{ReadEnd}
use Rattle.cc_ranges.specs.declared.read_steps.ReadEnd.TheVariants as ended
use Rattle.cc_ranges.specs.FlushSteps.{without_one}

-- A read that has not written its page need not: the page has no bytes that can be written.
abbrev pub IsClean : {Q : Type 0} → Bool → BookState → ℕ → JournalState Q → Type 0
IsClean written b page j = written ≡ false → has_no_write (book_page b page) j.entries ≡ true

-- Nothing refuses the read, the page starts at the size or past it, and the entry answers no bytes.
pub record HasNone {Q : Type 0} (u : Setup) (pass : ℕ) (file : File) (page : ℕ) (written : Bool)
    (b c : BookState) (j k : JournalState Q) : Type 0 where
  pub clean : IsClean written b page j
  pub attempt : AttemptDone u pass (call.NcRead file page) (reply.Read []) b c j k

-- Nothing refuses the read, the page was not written for it, has bytes that can be, and starts below the size; nothing
-- changed.
pub record ReadHasToWrite {Q : Type 0} (u : Setup) (file : File) (page : ℕ) (written : Bool)
    (b c : BookState) (j k : JournalState Q) : Type 0 where
  pub admitted : refusal u j.entries (history j.entries b.stream) (call.NcRead file page) ≡ None
  pub unwritten : written ≡ false
  pub has_write : has_no_write (book_page b page) j.entries ≡ false
  pub same_book : c ≡ b
  pub same_journal : k ≡ j

-- Nothing refuses the read, the page starts below the size, and a place is reserved for the entry of what the disk gives.
pub record ReadHasToRead {Q : Type 0} (u : Setup) (file : File) (page : ℕ) (written : Bool)
    (b c : BookState) (j k : JournalState Q) : Type 0 where
  pub admitted : refusal u j.entries (history j.entries b.stream) (call.NcRead file page) ≡ None
  pub clean : IsClean written b page j
  pub below : 4096 * page < size_of (history j.entries b.stream)
  pub same_book : c ≡ b
  pub reserved : k ≡ record j { reserved = j.reserved + 1 }

-- What the read does next, by cases.
abbrev pub ReadNextLeft : {Q : Type 0} → Setup → ℕ → File → ℕ → Bool → ReadNext
    → BookState → BookState → JournalState Q → JournalState Q → Type 0
ReadNextLeft u pass file page written next.Done b c j k = HasNone u pass file page written b c j k
ReadNextLeft u pass file page written (next.Refused e) b c j k = AttemptRefused u pass (call.NcRead file page) e b c j k
ReadNextLeft u pass file page written next.Writes b c j k = ReadHasToWrite u file page written b c j k
ReadNextLeft u pass file page written next.Reads b c j k = ReadHasToRead u file page written b c j k
ReadNextLeft u pass file page written (next.Stopped e) b c j k = IsStop 1 e j × FoundNone u b c j k

-- The same of a journal in which a place is reserved for the entry: no room is asked any more.
abbrev pub ReadGoneOn : {Q : Type 0} → Setup → ℕ → File → ℕ → Bool → ReadNext
    → BookState → BookState → JournalState Q → JournalState Q → Type 0
ReadGoneOn u pass file page written (next.Stopped e) b c j k = (e ≡ error.NoMemory) × FoundNone u b c (without_one j) k
ReadGoneOn u pass file page written other b c j k = ReadNextLeft u pass file page written other b c (without_one j) k

-- The same where nothing refuses the read: it is not refused then, and does not stop.
abbrev pub ReadAdmittedLeft : {Q : Type 0} → Setup → ℕ → File → ℕ → Bool → ReadNext
    → BookState → BookState → JournalState Q → JournalState Q → Type 0
ReadAdmittedLeft u pass file page written (next.Refused e) b c j k = ⊥
ReadAdmittedLeft u pass file page written (next.Stopped e) b c j k = ⊥
ReadAdmittedLeft u pass file page written other b c j k = ReadNextLeft u pass file page written other b c (without_one j) k

-- What a pass asks of a book on which the read of a page is to end: it may step there, no transfer of the stream is under
-- way, and the page was read.
pub record ReadMayEnd {Q : Type 0} (u : Setup) (pass : ℕ) (file : File) (page : ℕ) (raw : List ℕ)
    (b : BookState) (j : JournalState Q) : Type 0 where
  pub may : MayFill u pass (call.NcRead file page) b j
  pub read : WasRead (u.opening b.stream) (history j.entries b.stream) page raw

-- How the read ended, for whose entry a place is reserved, by cases: done, refused since others brought a refusal about,
-- or without an entry.
abbrev pub ReadHasEnded : {Q : Type 0} → Setup → ℕ → File → ℕ → ReadEnd
    → BookState → BookState → JournalState Q → JournalState Q → Type 0
ReadHasEnded u pass file page ended.Done b c j k =
    (r : Reply) × AttemptDone u pass (call.NcRead file page) r b c (without_one j) k
ReadHasEnded u pass file page (ended.Refused e) b c j k =
    AttemptRefused u pass (call.NcRead file page) e b c (without_one j) k
ReadHasEnded u pass file page ended.Stopped b c j k = FoundNone u b c (without_one j) k
