-- The steps of a purge on its book: what it does next.
use Rattle.std.specs.Prelude.{◌≡◌, ℕ, ◌<◌, ◌^◌, true, false}
use Rattle.std.specs.declared.option.Option.{Option}
use Rattle.std.specs.declared.option.Option.TheVariants.{None}
use Rattle.std.specs.List.{list_any}
use Rattle.cc_entry.specs.Place.{File, Range}
use Rattle.cc_entry.specs.declared.call.Call.TheVariants as call
use Rattle.cc_entry.specs.declared.entry.Entry.TheVariants as entry
use Rattle.cc_entry.specs.declared.error.CcError.TheVariants as error
use Rattle.cc_entry.specs.declared.reply.Reply.TheVariants as reply
use Rattle.cc_book.specs.Book.{BookState}
use Rattle.cc_effects.specs.Asked.{asks_out}
use Rattle.cc_step.specs.Fill.{MayFill, book_page}
use Rattle.cc_journal.specs.Journal.{JournalState}
use Rattle.cc_model.specs.History.{history}
use Rattle.cc_model.specs.Ranges.{span_has}
use Rattle.cc_model.specs.Refusals.{refusal}
use Rattle.cc_model.specs.Residency.{is_resident, residents}
use Rattle.cc_model.specs.Setup.{Setup}
use Rattle.cc_model.specs.Stamps.{is_unstamped}
use Rattle.cc_step.specs.Step.{StandUnder, Adds, AttemptDone, AttemptRefused, IsStop, FoundNone}
use Rattle.cc_ranges.specs.Dirty.{IsNext, IsCleanFrom}
use Rattle.cc_ranges.specs.FlushSteps.{without_one}
use Rattle.cc_ranges.specs.declared.purge_steps.PurgeNext.{PurgeNext}
use Rattle.cc_ranges.specs.declared.purge_steps.PurgeNext.TheVariants as next

-- Nothing refuses the purge, a page is the next to write, to which no pin owes a stamp, and nothing changed.
pub record PurgeHasToWrite {Q : Type 0} (u : Setup) (file : File) (span : Option Range) (from page : ℕ)
    (b c : BookState) (j k : JournalState Q) : Type 0 where
  pub admitted : refusal u j.entries (history j.entries b.stream) (call.Purge file span) ≡ None
  pub next : IsNext (history j.entries b.stream) span from page
  pub stamped : is_unstamped (history j.entries b.stream) page ≡ false
  pub same_book : c ≡ b
  pub same_journal : k ≡ j

-- No page of the span is dirty from one on, which is not the stream's first, and nothing changed.
pub record HasCleaned {Q : Type 0} (span : Option Range) (from : ℕ) (b c : BookState) (j k : JournalState Q) : Type 0 where
  pub later : 0 < from
  pub clean : IsCleanFrom (history j.entries b.stream) span from
  pub same_book : c ≡ b
  pub same_journal : k ≡ j

-- The least resident page of the span, of which no page is dirty, went out.
pub record HasTakenOut {Q : Type 0} (u : Setup) (pass : ℕ) (file : File) (span : Option Range)
    (b c : BookState) (j k : JournalState Q) : Type 0 where
  pub page : ℕ
  pub resident : is_resident (history j.entries b.stream) page ≡ true
  pub asked : asks_out pass (call.Purge file span) (book_page b page) j.entries ≡ true
  pub placed : Adds (entry.PageOut pass (book_page b page)) j k
  pub stand : StandUnder u c k
  pub stream : c.stream ≡ b.stream

-- What a purge does next, by cases.
abbrev pub PurgeNextLeft : {Q : Type 0} → Setup → ℕ → File → Option Range → ℕ → PurgeNext
    → BookState → BookState → JournalState Q → JournalState Q → Type 0
PurgeNextLeft u pass file span from next.Done b c j k = AttemptDone u pass (call.Purge file span) reply.Unit b c j k
PurgeNextLeft u pass file span from (next.Refused e) b c j k = AttemptRefused u pass (call.Purge file span) e b c j k
PurgeNextLeft u pass file span from (next.Writes page) b c j k = PurgeHasToWrite u file span from page b c j k
PurgeNextLeft u pass file span from next.Cleaned b c j k = HasCleaned span from b c j k
PurgeNextLeft u pass file span from next.WentOut b c j k = HasTakenOut u pass file span b c j k
PurgeNextLeft u pass file span from (next.Stopped e) b c j k = IsStop 1 e j × FoundNone u b c j k

-- a page that is to be written has a number
abbrev pub PurgePageIsNumbered : PurgeNext → Type 0
PurgePageIsNumbered (next.Writes page) = page < 2 ^ 51
PurgePageIsNumbered other = Unit {0}

-- The same of a journal in which a place is reserved for the purge: no room is asked any more.
abbrev pub PurgeGoneOn : {Q : Type 0} → Setup → ℕ → File → Option Range → ℕ → PurgeNext
    → BookState → BookState → JournalState Q → JournalState Q → Type 0
PurgeGoneOn u pass file span from (next.Stopped e) b c j k = (e ≡ error.NoMemory) × FoundNone u b c (without_one j) k
PurgeGoneOn u pass file span from other b c j k = PurgeNextLeft u pass file span from other b c (without_one j) k

-- A place is reserved for a purge that nothing refuses, and no page of its span is dirty.
pub record MayEmpty {Q : Type 0} (u : Setup) (pass : ℕ) (file : File) (span : Option Range)
    (b : BookState) (j : JournalState Q) : Type 0 where
  pub may : MayFill u pass (call.Purge file span) b (without_one j)
  pub admitted : refusal u j.entries (history j.entries b.stream) (call.Purge file span) ≡ None
  pub clean : IsCleanFrom (history j.entries b.stream) span 0

-- A place is reserved for a purge that nothing refuses, and no page of its span is resident.
pub record PurgeMayEnd {Q : Type 0} (u : Setup) (pass : ℕ) (file : File) (span : Option Range)
    (b : BookState) (j : JournalState Q) : Type 0 where
  pub may : MayFill u pass (call.Purge file span) b (without_one j)
  pub admitted : refusal u j.entries (history j.entries b.stream) (call.Purge file span) ≡ None
  pub out : list_any (span_has span) (residents (history j.entries b.stream)) ≡ false
