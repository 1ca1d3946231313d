-- The steps of the write of a page on its book, until the page is ready to be stored.
use Rattle.std.specs.Prelude.{◌≡◌, ℕ, ◌-◌, Result, Ok, Err}
use Rattle.std.specs.declared.option.Option.TheVariants.{None}
use Rattle.cc_entry.specs.Place.{File}
use Rattle.cc_entry.specs.declared.call.Call.{Call}
use Rattle.cc_entry.specs.declared.call.Call.TheVariants as call
use Rattle.cc_entry.specs.declared.error.CcError.{CcError}
use Rattle.cc_entry.specs.declared.error.CcError.TheVariants as error
use Rattle.cc_book.specs.Book.{BookState}
use Rattle.cc_step.specs.Fill.{HasToWrite, MadeWay, MayFill, book_page}
use Rattle.cc_step.specs.declared.ways.Way.{Way}
use Rattle.cc_step.specs.declared.ways.Way.TheVariants as way
use Rattle.cc_journal.specs.Journal.{JournalState}
use Rattle.cc_model.specs.History.{history}
use Rattle.cc_model.specs.Refusals.{refusal}
use Rattle.cc_model.specs.Setup.{Setup}
use Rattle.cc_step.specs.Step.{AttemptRefused, FoundNone, IsStop}
use Rattle.cc_ranges.specs.Stores.{IsReadyToStore}
use Rattle.cc_ranges.specs.declared.write_steps.WriteNext.{WriteNext}
use Rattle.cc_ranges.specs.declared.write_steps.WriteNext.TheVariants as next

-- The page is ready to be stored, and nothing changed.
pub record WriteHasRoom {Q : Type 0} (u : Setup) (file : File) (page : ℕ) (b c : BookState) (j k : JournalState Q) : Type 0 where
  pub ready : IsReadyToStore u j.entries file (book_page b page)
  pub same_book : c ≡ b
  pub same_journal : k ≡ j

-- What the write of a page does next, by cases.
abbrev pub WriteNextLeft : {Q : Type 0} → Setup → ℕ → File → ℕ → WriteNext
    → BookState → BookState → JournalState Q → JournalState Q → Type 0
WriteNextLeft u pass file page (next.Refused e) b c j k = AttemptRefused u pass (call.NcWrite file page) e b c j k
WriteNextLeft u pass file page next.Ready b c j k = WriteHasRoom u file page b c j k
WriteNextLeft u pass file page next.WentOut b c j k = (again : Call) × MadeWay u pass (call.NcWrite file page) again b c j k
WriteNextLeft u pass file page (next.Writes dirty) b c j k =
    (again : Call) × HasToWrite u dirty (call.NcWrite file page) again b c j k
WriteNextLeft u pass file page (next.Stopped e) b c j k = IsStop 1 e j × FoundNone u b c j k

-- Nothing refuses the write of a page.
pub record MayMakeRoom {Q : Type 0} (u : Setup) (pass : ℕ) (file : File) (page : ℕ) (b : BookState) (j : JournalState Q)
    : Type 0 where
  pub may : MayFill u pass (call.NcWrite file page) b j
  pub admitted : refusal u j.entries (history j.entries b.stream) (call.NcWrite file page) ≡ None

-- the step that makes room
abbrev pub next_of : Result Way CcError → WriteNext
next_of (Ok (way.WentOut again)) = next.WentOut
next_of (Ok (way.Writes dirty again)) = next.Writes dirty
next_of (Ok (way.Reads page again)) = next.Stopped error.NoMemory
next_of (Err e) = next.Stopped e
