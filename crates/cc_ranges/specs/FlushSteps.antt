-- The steps of a flush on its book: what it does next, and how it ends.
use Rattle.std.specs.Prelude.{◌≡◌, ℕ, ◌+◌, ◌-◌, ◌<◌, ◌^◌, true, false}
use Rattle.std.specs.declared.option.Option.{Option}
use Rattle.std.specs.declared.option.Option.TheVariants.{None}
use Rattle.cc_entry.specs.Place.{File, Range}
use Rattle.cc_entry.specs.declared.call.Call.TheVariants as call
use Rattle.cc_entry.specs.declared.error.CcError.TheVariants as error
use Rattle.cc_entry.specs.declared.reply.Reply.TheVariants as reply
use Rattle.cc_book.specs.Book.{BookState}
use Rattle.cc_journal.specs.Journal.{JournalState}
use Rattle.cc_model.specs.Flushed.{is_flushed}
use Rattle.cc_model.specs.History.{history}
use Rattle.cc_model.specs.Refusals.{refusal}
use Rattle.cc_model.specs.Setup.{Setup}
use Rattle.cc_model.specs.Stamps.{is_unstamped}
use Rattle.cc_step.specs.Step.{MayStep, AttemptDone, AttemptRefused, IsStop, FoundNone}
use Rattle.cc_ranges.specs.Dirty.{IsNext, IsCleanFrom}
use Rattle.cc_ranges.specs.declared.flush_steps.FlushNext.{FlushNext}
use Rattle.cc_ranges.specs.declared.flush_steps.FlushNext.TheVariants as next
use Rattle.cc_ranges.specs.declared.flush_steps.FlushEnd.{FlushEnd}
use Rattle.cc_ranges.specs.declared.flush_steps.FlushEnd.TheVariants as finished

-- Nothing refuses the flush, a page is the next to write, to which no pin owes a stamp, and nothing changed.
pub record FlushHasToWrite {Q : Type 0} (u : Setup) (file : File) (span : Option Range) (from page : ℕ)
    (b c : BookState) (j k : JournalState Q) : Type 0 where
  pub admitted : refusal u j.entries (history j.entries b.stream) (call.Flush file span) ≡ None
  pub next : IsNext (history j.entries b.stream) span from page
  pub stamped : is_unstamped (history j.entries b.stream) page ≡ false
  pub same_book : c ≡ b
  pub same_journal : k ≡ j

-- Nothing refuses the flush, no page of the span is dirty from one on, and a place is reserved for the entry of the
-- sync.
pub record HasToSync {Q : Type 0} (u : Setup) (file : File) (span : Option Range) (from : ℕ)
    (b c : BookState) (j k : JournalState Q) : Type 0 where
  pub admitted : refusal u j.entries (history j.entries b.stream) (call.Flush file span) ≡ None
  pub clean : IsCleanFrom (history j.entries b.stream) span from
  pub same_book : c ≡ b
  pub reserved : k ≡ record j { reserved = j.reserved + 1 }

-- What a flush does next, by cases.
abbrev pub FlushNextLeft : {Q : Type 0} → Setup → ℕ → File → Option Range → ℕ → FlushNext
    → BookState → BookState → JournalState Q → JournalState Q → Type 0
FlushNextLeft u pass file span from (next.Refused e) b c j k = AttemptRefused u pass (call.Flush file span) e b c j k
FlushNextLeft u pass file span from (next.Writes page) b c j k = FlushHasToWrite u file span from page b c j k
FlushNextLeft u pass file span from next.Syncs b c j k = HasToSync u file span from b c j k
FlushNextLeft u pass file span from (next.Stopped e) b c j k = IsStop 1 e j × FoundNone u b c j k

-- a page that is to be written has a number
abbrev pub FlushPageIsNumbered : FlushNext → Type 0
FlushPageIsNumbered (next.Writes page) = page < 2 ^ 51
FlushPageIsNumbered other = Unit {0}

-- What a pass asks of a book on which its flush is to end: it may step there, and has synced.
pub record FlushMayFinish {Q : Type 0} (u : Setup) (pass : ℕ) (file : File) (span : Option Range)
    (b : BookState) (j : JournalState Q) : Type 0 where
  pub may : MayStep u pass (call.Flush file span) b j
  pub flushed : is_flushed j.entries pass b.stream span ≡ true

-- How the flush ended, by cases: done, refused since others brought a refusal about, or without an entry.
abbrev pub FlushFinishLeft : {Q : Type 0} → Setup → ℕ → File → Option Range → FlushEnd
    → BookState → BookState → JournalState Q → JournalState Q → Type 0
FlushFinishLeft u pass file span finished.Done b c j k = AttemptDone u pass (call.Flush file span) reply.Unit b c j k
FlushFinishLeft u pass file span (finished.Refused e) b c j k = AttemptRefused u pass (call.Flush file span) e b c j k
FlushFinishLeft u pass file span (finished.Stopped e) b c j k = IsStop 1 e j × FoundNone u b c j k

-- a journal with one place less reserved
abbrev pub without_one : {Q : Type 0} → JournalState Q → JournalState Q
without_one j = record j { reserved = j.reserved - 1 }

-- The same of a journal in which a place is reserved for the flush: no room is asked any more.
abbrev pub FlushGoneOn : {Q : Type 0} → Setup → ℕ → File → Option Range → ℕ → FlushNext
    → BookState → BookState → JournalState Q → JournalState Q → Type 0
FlushGoneOn u pass file span from (next.Stopped e) b c j k = (e ≡ error.NoMemory) × FoundNone u b c (without_one j) k
FlushGoneOn u pass file span from other b c j k = FlushNextLeft u pass file span from other b c (without_one j) k

abbrev pub FlushHasEnded : {Q : Type 0} → Setup → ℕ → File → Option Range → FlushEnd
    → BookState → BookState → JournalState Q → JournalState Q → Type 0
FlushHasEnded u pass file span (finished.Stopped e) b c j k = (e ≡ error.NoMemory) × FoundNone u b c (without_one j) k
FlushHasEnded u pass file span other b c j k = FlushFinishLeft u pass file span other b c (without_one j) k
