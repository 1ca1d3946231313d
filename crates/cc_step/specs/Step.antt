-- The step of a call on a book: what it asks, and what it leaves.
use Rattle.std.specs.Prelude.{◌≡◌, ℕ, ◌+◌, ◌-◌, ◌<◌, ◌≤◌, ◌⊎◌, nat_eq, Bool, true, false, not, List, ◌∷◌, length, if◌then◌else◌}
use Rattle.std.specs.declared.option.Option.{Option}
use Rattle.std.specs.declared.option.Option.TheVariants.{Some, None}
use Rattle.std.specs.List.{find}
use Rattle.std.specs.Option.{option_eq}
use Rattle.cc_entry.specs.Pages.{pages_of}
use Rattle.cc_entry.specs.Place.{Range}
use Rattle.cc_entry.specs.Queries.{is_of_stream}
use Rattle.cc_entry.specs.declared.call.Call.{Call}
use Rattle.cc_entry.specs.declared.call.Call.TheVariants as call
use Rattle.cc_entry.specs.declared.error.CcError.{CcError}
use Rattle.cc_entry.specs.declared.error.CcError.TheVariants as error
use Rattle.cc_entry.specs.declared.entry.Entry.{Entry}
use Rattle.cc_entry.specs.declared.reply.Reply.{Reply}
use Rattle.cc_book.specs.Book.{BookState, BookStands, Gains, done, failed}
use Rattle.cc_journal.specs.Journal.{JournalState, room_of}
use Rattle.cc_model.specs.Acts.{file_of}
use Rattle.cc_model.specs.Conditions.{IsFilled}
use Rattle.cc_model.specs.Filing.{IsFiled}
use Rattle.cc_model.specs.Good.{IsGood}
use Rattle.cc_model.specs.History.{Effect, history}
use Rattle.cc_model.specs.Holds.{Hold, hold_at, holds_of}
use Rattle.cc_model.specs.Ranges.{range_of}
use Rattle.cc_model.specs.Refusals.{refusal}
use Rattle.cc_model.specs.Replies.{IsReply, is_whole}
use Rattle.cc_model.specs.Residency.{is_resident}
use Rattle.cc_model.specs.Room.{owes_set_dirty, places_asked, reserved_in}
use Rattle.cc_model.specs.Setup.{Setup}
use Rattle.cc_model.specs.Touches.{size_of}
use Rattle.cc_step.specs.declared.ways.Attempt.{Attempt}
use Rattle.cc_step.specs.declared.ways.Attempt.TheVariants as attempt

-- Whether a call is done here, from the book of its stream and the journal alone. The others need a device, a sync or
-- pages that go, or belong to no stream.
abbrev pub is_stepped : Call → Bool
is_stepped (call.NcRead file page) = false
is_stepped (call.NcStore file page bytes) = false
is_stepped (call.NcWrite file page) = false
is_stepped (call.Flush file span) = false
is_stepped (call.Purge file span) = false
is_stepped (call.Discard file span) = false
is_stepped (call.Query query) = is_of_stream query
is_stepped other = true

-- A book and a journal stand under a setup: the journal is good, its limits are those of the setup, and the book
-- stands for it.
pub record StandUnder {Q : Type 0} (u : Setup) (b : BookState) (j : JournalState Q) : Type 0 where
  pub good : IsGood u j.entries
  pub stands : BookStands (u.opening b.stream) j.entries b
  pub logs_are : u.logs ≡ j.logs
  pub threshold_is : u.threshold ≡ j.threshold

-- What a pass asks of a book: under some setup the two stand, the call may be filed under the stream, and the journal has
-- reserved what its past owes.
pub record MayStep {Q : Type 0} (u : Setup) (pass : ℕ) (it : Call) (b : BookState) (j : JournalState Q) : Type 0 where
  pub stand : StandUnder u b j
  pub filed : IsFiled (holds_of (history j.entries b.stream)) pass (Some b.stream) it (file_of it)
  pub owed : reserved_in j.entries ≤ j.reserved

-- The range whose pages a call needs: its own; of a read-ahead step none, where it brings none in.
abbrev pub needed_range : List Effect → Call → Option Range
needed_range h (call.AheadStep request) = if is_whole h request then range_of (size_of h) (call.AheadStep request) else None
needed_range h other = range_of (size_of h) other

-- what is so of a call that needs pages: a read-ahead step brings them in
abbrev pub IsNeeding : List Effect → Call → Type 0
IsNeeding h (call.AheadStep request) = is_whole h request ≡ true
IsNeeding h other = Unit {0}

-- Nothing refuses a call on a stream, and each page that it needs is resident.
pub record IsReadyFor (u : Setup) (past : List Entry) (s : ℕ) (it : Call) : Type 0 where
  pub admitted : refusal u past (history past s) it ≡ None
  pub filled : IsFilled (history past s) (needed_range (history past s) it)

-- A reply is the one that a call is answered with, which this pass does on the stream.
abbrev pub IsReplyOf : Setup → List Entry → ℕ → ℕ → Call → Reply → Type 0
IsReplyOf u past s pass it r = IsReply u past (u.opening s) (history past s) pass it r

-- the least page of a range that is not resident
abbrev pub least_absent : List Effect → Option Range → Option ℕ
least_absent h None = None
least_absent h (Some r) = find (λ p. not (is_resident h p)) (pages_of r)

-- The journal gained an entry for which a place was reserved, and reserved so many more with it.
abbrev pub GainsWith : {Q : Type 0} → ℕ → Entry → JournalState Q → JournalState Q → Type 0
GainsWith more e j k = k ≡ record j { entries = e ∷ j.entries; reserved = (j.reserved - 1) + more; rows = k.rows }

-- the call was done, and what it answered stands in its entry
pub record StepIsDone {Q : Type 0} (u : Setup) (pass more : ℕ) (it : Call) (r : Reply) (b c : BookState) (j k : JournalState Q) : Type 0 where
  pub placed : GainsWith more (done pass j.entries b.stream it r) j k
  pub stand : StandUnder u c k
  pub stream : c.stream ≡ b.stream

-- the call was refused, by the first reason that holds, and its entry says so
pub record StepIsRefused {Q : Type 0} (u : Setup) (pass : ℕ) (it : Call) (e : CcError) (b c : BookState) (j k : JournalState Q) : Type 0 where
  pub reason : refusal u j.entries (history j.entries b.stream) it ≡ Some e
  pub placed : Gains (failed pass j.entries b.stream it e) j k
  pub stand : StandUnder u c k
  pub same : c ≡ b

-- the call waits for a page, the least that it needs and that is not resident; nothing refuses it, and nothing changed
pub record StepWaits {Q : Type 0} (u : Setup) (page : ℕ) (it again : Call) (b c : BookState) (j k : JournalState Q) : Type 0 where
  pub admitted : refusal u j.entries (history j.entries b.stream) it ≡ None
  pub least : least_absent (history j.entries b.stream) (needed_range (history j.entries b.stream) it) ≡ Some page
  pub call_is : again ≡ it
  pub same_book : c ≡ b
  pub same_journal : k ≡ j

-- no memory was found: the journal is as it was, and the book stands as before
pub record FoundNone {Q : Type 0} (u : Setup) (b c : BookState) (j k : JournalState Q) : Type 0 where
  pub same_journal : k ≡ j
  pub stand : StandUnder u c k
  pub stream : c.stream ≡ b.stream

-- Why a step stopped: for want of the room for so many more places, or of memory.
abbrev pub IsWantOf : {Q : Type 0} → ℕ → CcError → JournalState Q → Type 0
IsWantOf more e j = ((e ≡ error.JournalFull (length j.entries)) × (room_of j < more)) ⊎ (e ≡ error.NoMemory)

-- What the placing of a done call's entry leaves, for which so many more places are reserved: they stay with it, or are
-- given back where there is no memory.
abbrev pub StepPlacingLeft : {Q : Type 0} → Setup → ℕ → ℕ → Call → Reply → Attempt (ℕ × Call)
    → BookState → BookState → JournalState Q → JournalState Q → Type 0
StepPlacingLeft u pass more it r attempt.Done b c j k =
    Gains (done pass j.entries b.stream it r) j k × StandUnder u c k × (c.stream ≡ b.stream)
StepPlacingLeft u pass more it r (attempt.Stopped e) b c j k =
    (e ≡ error.NoMemory) × (k ≡ record j { reserved = j.reserved - more }) × StandUnder u c k × (c.stream ≡ b.stream)
StepPlacingLeft u pass more it r other b c j k = ⊥

-- A call that finds the journal full is to be done: nothing refuses it, and each page that it needs is resident.
abbrev pub IsReadyWhenFull : Setup → List Entry → ℕ → Call → CcError → Type 0
IsReadyWhenFull u past s it (error.JournalFull entries) = IsReadyFor u past s it
IsReadyWhenFull u past s it other = Unit {0}

-- What the step of a call leaves, that reserves so many more places where it is done, by cases over how it ended.
abbrev pub StepLeft : {Q : Type 0} → Setup → ℕ → ℕ → Call → Attempt (ℕ × Call)
    → BookState → BookState → JournalState Q → JournalState Q → Type 0
StepLeft u pass more it attempt.Done b c j k = (r : Reply) × StepIsDone u pass more it r b c j k
StepLeft u pass more it (attempt.Refused e) b c j k = StepIsRefused u pass it e b c j k
StepLeft u pass more it (attempt.Stopped e) b c j k =
    IsWantOf more e j × FoundNone u b c j k × IsReadyWhenFull u j.entries b.stream it e
StepLeft u pass more it (attempt.GoesOn (page, again)) b c j k = StepWaits u page it again b c j k

-- Whether the entry of a call that is refused or fails is placed here: that of each call that is stepped, and of those
-- that are done elsewhere, once they have synced, emptied a span, read the disk or stored a page.
abbrev pub is_answered : Call → Bool
is_answered (call.Flush file span) = true
is_answered (call.Purge file span) = true
is_answered (call.NcRead file page) = true
is_answered (call.NcWrite file page) = true
is_answered other = is_stepped other

-- as many as it may ask, whatever holds are open
abbrev pub most_asked : Call → ℕ
most_asked (call.Map file at len) = 2
most_asked (call.PinRead file at len exclusive) = 2
most_asked (call.PreparePin file at len zero exclusive) = if zero then 3 else 2
most_asked (call.Repin hold) = 2
most_asked (call.MdlRead file at len) = 2
most_asked (call.MdlWrite file at len) = 2
most_asked (call.PinnedWrite hold at bytes) = 2
most_asked (call.EndHold hold) = 0
most_asked other = 1

-- How many reserved places a call gives back beside that of its entry: an end of a pin gives back that of its set-dirty.
abbrev pub places_spared : List Hold → Call → ℕ
places_spared holds (call.EndHold hold) = if owes_set_dirty (hold_at holds hold) then 1 else 0
places_spared holds other = 0

-- the places that a call asks of a stream as it is
abbrev pub asked_now : List Entry → ℕ → Call → ℕ
asked_now past s it = places_asked (holds_of (history past s)) it

-- The journal gained one entry, and has as many places reserved as before.
abbrev pub Adds : {Q : Type 0} → Entry → JournalState Q → JournalState Q → Type 0
Adds e j k = k ≡ record j { entries = e ∷ j.entries; rows = k.rows }

-- The journal gained one entry. It has reserved what its past owes now, and beyond that as much as before.
abbrev pub AddsOwing : {Q : Type 0} → Entry → JournalState Q → JournalState Q → Type 0
AddsOwing e j k =
    k ≡ record j { entries = e ∷ j.entries; reserved = reserved_in (e ∷ j.entries) + (j.reserved - reserved_in j.entries); rows = k.rows }

-- an attempt at a call: it was done, and what it answered stands in its entry
pub record AttemptDone {Q : Type 0} (u : Setup) (pass : ℕ) (it : Call) (r : Reply) (b c : BookState) (j k : JournalState Q) : Type 0 where
  pub placed : AddsOwing (done pass j.entries b.stream it r) j k
  pub stand : StandUnder u c k
  pub stream : c.stream ≡ b.stream

-- it was refused, by the first reason that holds, and its entry says so
pub record AttemptRefused {Q : Type 0} (u : Setup) (pass : ℕ) (it : Call) (e : CcError)
    (b c : BookState) (j k : JournalState Q) : Type 0 where
  pub reason : refusal u j.entries (history j.entries b.stream) it ≡ Some e
  pub placed : AddsOwing (failed pass j.entries b.stream it e) j k
  pub stand : StandUnder u c k
  pub same : c ≡ b

-- Why an attempt stopped that asks so many places: for want of room, exactly where there is none, or of memory. One that
-- asks none does not stop.
abbrev pub IsStop : {Q : Type 0} → ℕ → CcError → JournalState Q → Type 0
IsStop asked e j =
    ((e ≡ error.JournalFull (length j.entries)) × (room_of j < asked)) ⊎ ((e ≡ error.NoMemory) × (0 < asked))

-- What an attempt at a call that stopped was short of, beside memory: the room for one entry, or, as the call is to be done,
-- that for all that it asks.
abbrev pub IsShort : {Q : Type 0} → Setup → ℕ → Call → CcError → JournalState Q → Type 0
IsShort u s it e j = (room_of j < 1) ⊎ IsReadyWhenFull u j.entries s it e

-- it stopped, which asks so many places at most, and left no entry
abbrev pub AttemptStopped : {Q : Type 0} → Setup → ℕ → Call → CcError → BookState → BookState → JournalState Q → JournalState Q → Type 0
AttemptStopped u asked it e b c j k = IsStop asked e j × FoundNone u b c j k × IsShort u b.stream it e j

-- What an attempt at a call leaves that asks so many places at most, by cases over how it ended; where the call goes on,
-- that is so which is said of the way.
abbrev pub AttemptEnded : {T : Type 0} {Q : Type 0} → (T → Type 0) → Setup → ℕ → ℕ → Call → Attempt T
    → BookState → BookState → JournalState Q → JournalState Q → Type 0
AttemptEnded said u pass asked it attempt.Done b c j k = (r : Reply) × AttemptDone u pass it r b c j k
AttemptEnded said u pass asked it (attempt.Refused e) b c j k = AttemptRefused u pass it e b c j k
AttemptEnded said u pass asked it (attempt.Stopped e) b c j k = AttemptStopped u asked it e b c j k
AttemptEnded said u pass asked it (attempt.GoesOn way) b c j k = said way

-- What an attempt at a call leaves: where the call goes on, it waits for a page.
abbrev pub AttemptLeft : {Q : Type 0} → Setup → ℕ → Call → Attempt (ℕ × Call)
    → BookState → BookState → JournalState Q → JournalState Q → Type 0
AttemptLeft u pass it ended b c j k =
    AttemptEnded (λ (waits : ℕ × Call). StepWaits u waits.0 it waits.1 b c j k) u pass (asked_now j.entries b.stream it) it ended b c j k

-- whether the step of a call that ended so placed an entry
abbrev pub has_placed : {T : Type 0} → Attempt T → Bool
has_placed attempt.Done = true
has_placed (attempt.Refused e) = true
has_placed (attempt.Stopped e) = false
has_placed (attempt.GoesOn way) = false

-- The page that a call waits for, given what refuses it: none where that is anything, else the least that it needs and
-- that is not resident, if there is one.
abbrev pub awaited_of : Option CcError → List Effect → Option Range → Option ℕ
awaited_of (Some e) h r = None
awaited_of None h r = least_absent h r

-- the page that a call on a stream waits for
abbrev pub awaited : Setup → List Entry → ℕ → Call → Option ℕ
awaited u past s it =
    awaited_of (refusal u past (history past s) it) (history past s) (needed_range (history past s) it)

-- whether a call waits for this page
abbrev pub is_awaited : Setup → List Entry → ℕ → Call → ℕ → Bool
is_awaited u past s it page = option_eq nat_eq (awaited u past s it) (Some page)
