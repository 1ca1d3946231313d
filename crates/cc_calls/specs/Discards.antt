-- What a discard leaves, why it is refused, and what holds of its stream where it was done.
use Rattle.std.specs.Prelude.{◌≡◌, ℕ, suc, ◌+◌, ◌-◌, ◌*◌, ◌^◌, ◌<◌, ◌≤◌, ◌==◌, true, false, not, min, Result, Ok, Err, List, ◌∷◌}
use Rattle.std.specs.declared.option.Option.{Option}
use Rattle.std.specs.declared.option.Option.TheVariants.{Some, None}
use Rattle.cc_entry.specs.Place.{File, Range}
use Rattle.cc_entry.specs.declared.call.Call.TheVariants as call
use Rattle.cc_entry.specs.declared.entry.Entry.{Entry}
use Rattle.cc_entry.specs.declared.entry.Entry.TheVariants as entry
use Rattle.cc_entry.specs.declared.error.CcError.{CcError}
use Rattle.cc_entry.specs.declared.error.CcError.TheVariants as error
use Rattle.cc_entry.specs.declared.reply.Outcome.{Outcome}
use Rattle.cc_entry.specs.declared.reply.Outcome.TheVariants as outcome
use Rattle.cc_entry.specs.declared.reply.Reply.TheVariants as reply
use Rattle.cc_book.specs.Book.{BookState}
use Rattle.cc_effects.specs.Calls.{CallLeft}
use Rattle.cc_effects.specs.Moments.{IsIdle}
use Rattle.cc_journal.specs.Journal.{JournalState}
use Rattle.cc_laws.specs.Facts.{IsOnDisk}
use Rattle.cc_laws.specs.LeastPages.{IsLeastDirty}
use Rattle.cc_model.specs.Bytes.{byte_of}
use Rattle.cc_model.specs.Conflicts.{has_page_of}
use Rattle.cc_model.specs.Discards.{is_known, has_grown}
use Rattle.cc_model.specs.Good.{IsGood}
use Rattle.cc_model.specs.History.{Effect, history}
use Rattle.cc_model.specs.Holds.{holds_of, least_id}
use Rattle.cc_model.specs.Images.{image, open_of}
use Rattle.cc_model.specs.Ranges.{span_has}
use Rattle.cc_model.specs.Reasons.{is_open}
use Rattle.cc_model.specs.Residency.{is_resident}
use Rattle.cc_model.specs.Setup.{Setup}
use Rattle.cc_step.specs.Step.{AttemptDone, AttemptRefused, FoundNone, IsStop}
use Rattle.cc_model.specs.Touches.{is_dirty, sizes, unwritten, valid_of}
use Rattle.cc_turns.specs.Standing.{Standing}
use Rattle.cc_writes.specs.Ways.{IsFull}
use Rattle.cc_calls.specs.Answers.{outcome_of}
use Rattle.cc_calls.specs.Pages.{WentOn}

-- The object is open, and no open hold has a page of the span.
pub record IsUnheld (h : List Effect) (file : File) (span : Option Range) : Type 0 where
  pub opened : is_open h file ≡ true
  pub unheld : least_id (has_page_of span) (holds_of h) ≡ None

-- And of each dirty page of the span the image is known.
pub record SpanIsSettled (h : List Effect) (file : File) (span : Option Range) : Type 0 where
  pub unheld : IsUnheld h file span
  pub settled : (p : ℕ) → is_dirty h p ≡ true → span_has span p ≡ true → is_known h p ≡ true

-- A discard may be done: none of them has grown either, and no transfer of the stream is under way.
pub record MayDiscard (h : List Effect) (file : File) (span : Option Range) : Type 0 where
  pub settled : SpanIsSettled h file span
  pub none_grown : (p : ℕ) → is_dirty h p ≡ true → span_has span p ≡ true → has_grown h p ≡ false
  pub no_transfer : open_of h ≡ None

-- Why a discard is refused, the first that holds: the object is not open; a hold has a page of the span, the one with the
-- least id; the image of a dirty page of the span is not known, the least such page; or one has grown, the least such page.
abbrev pub IsDiscardReason : List Effect → File → Option Range → CcError → Type 0
IsDiscardReason h file span error.NotCached = is_open h file ≡ false
IsDiscardReason h file span (error.Held id) = (is_open h file ≡ true) × (least_id (has_page_of span) (holds_of h) ≡ Some id)
IsDiscardReason h file span (error.Unsettled page) = IsUnheld h file span × IsLeastDirty h span (λ p. not (is_known h p)) page
IsDiscardReason h file span (error.Grown page) = SpanIsSettled h file span × IsLeastDirty h span (has_grown h) page
IsDiscardReason h file span other = ⊥

-- After others went on, the pass placed the entry of its discard, and nothing else.
pub record DiscardIsPlaced (me : ℕ) (file : File) (span : Option Range) (ended : Outcome) (old new : List Entry) : Type 0 where
  pub front : List Entry
  pub idle : IsIdle me old front
  pub nth : ℕ
  pub placed : new ≡ entry.Call me nth (Some file.stream) (call.Discard file span) ended ∷ front

-- What a discard makes of its stream: after it no page of its span is resident or dirty, and each byte below the valid data
-- length of such a page is that of its image, which is what the disk holds. A page of the span that was clean shows what it
-- showed; every other page is as it was, with what is unwritten of it, and so are the sizes and what the disk holds.
pub record HasDropped (before after : List Effect) (span : Option Range) : Type 0 where
  pub out : (p : ℕ) → span_has span p ≡ true → is_resident after p ≡ false
  pub clean : (p : ℕ) → span_has span p ≡ true → is_dirty after p ≡ false
  pub on_disk : (pages : ℕ → List ℕ) (p i : ℕ) → span_has span p ≡ true →
      4096 * p ≤ i → i < 4096 * p + 4096 → i < valid_of after → IsOnDisk pages after p i
  pub same_clean : (pages : ℕ → List ℕ) (p i : ℕ) → is_dirty before p ≡ false →
      4096 * p ≤ i → i < 4096 * p + 4096 → byte_of pages after i ≡ byte_of pages before i
  pub same_bytes : (pages : ℕ → List ℕ) (p i : ℕ) → span_has span p ≡ false →
      4096 * p ≤ i → i < 4096 * p + 4096 → byte_of pages after i ≡ byte_of pages before i
  pub same_pages : (p : ℕ) → span_has span p ≡ false →
      (is_resident after p ≡ is_resident before p) × (unwritten after p ≡ unwritten before p)
  pub same_sizes : sizes after ≡ sizes before
  pub same_disk : (pages : ℕ → List ℕ) (p : ℕ) → image pages after p ≡ image pages before p

-- A discard was done: it might be done at its entry's front, and dropped the pages of its span. Other streams are as they were.
pub record IsDiscarded (me : ℕ) (file : File) (span : Option Range) (old new : List Entry) : Type 0 where
  pub alone : DiscardIsPlaced me file span (outcome.Done reply.Unit) old new
  pub may : MayDiscard (history alone.front file.stream) file span
  pub dropped : HasDropped (history alone.front file.stream) (history new file.stream) span
  pub elsewhere : (s : ℕ) → (file.stream == s) ≡ false → history new s ≡ history alone.front s

-- It was refused, by the first reason that holds at its entry's front.
pub record DiscardIsRefused (me : ℕ) (file : File) (span : Option Range) (e : CcError) (old new : List Entry) : Type 0 where
  pub alone : DiscardIsPlaced me file span (outcome.Failed e) old new
  pub reason : IsDiscardReason (history alone.front file.stream) file span e

-- What a discard did, by cases over its answer. It asked one place, which there was not, or found no memory, and then the
-- pass placed nothing.
abbrev pub DiscardDid : ℕ → File → Option Range → Result (Unit {0}) CcError → List Entry → List Entry → Type 0
DiscardDid me file span (Ok done) old new = IsDiscarded me file span old new
DiscardDid me file span (Err (error.JournalFull entries)) old new = IsIdle me old new
DiscardDid me file span (Err error.NoMemory) old new = IsIdle me old new
DiscardDid me file span (Err e) old new = DiscardIsRefused me file span e old new

-- What a discard leaves of a book and a journal in hand, by cases over its answer: its entry, or nothing.
abbrev pub DiscardStepLeft : {Q : Type 0} → Setup → ℕ → File → Option Range → Result (Unit {0}) CcError
    → BookState → BookState → JournalState Q → JournalState Q → Type 0
DiscardStepLeft u pass file span (Ok done) b c j k = AttemptDone u pass (call.Discard file span) reply.Unit b c j k
DiscardStepLeft u pass file span (Err (error.JournalFull entries)) b c j k =
    IsStop 1 (error.JournalFull entries) j × FoundNone u b c j k
DiscardStepLeft u pass file span (Err error.NoMemory) b c j k = IsStop 1 error.NoMemory j × FoundNone u b c j k
DiscardStepLeft u pass file span (Err e) b c j k = AttemptRefused u pass (call.Discard file span) e b c j k

-- A discard of a span was answered so: it left what explains its answer; where it finds the journal full, there is no room
-- for one entry; it took the turn of a disk once; the pass goes on as it stood and may call again, and what it has seen is
-- good. What it did is the newest that the pass has seen.
pub record DiscardEnds (old new : Standing) (file : File) (span : Option Range)
    (answer : Result (Unit {0}) CcError) : Type 0 where
  pub left : CallLeft old.setup old.number (call.Discard file span) (outcome_of answer) old.seen new.seen
  pub did : DiscardDid old.number file span answer old.seen new.seen
  pub full : IsFull 1 new answer
  pub goes_on : WentOn old new
  pub took_device : new.device_turns ≡ min (suc old.device_turns) (2 ^ 64 - 1)
  pub good : IsGood old.setup new.seen
