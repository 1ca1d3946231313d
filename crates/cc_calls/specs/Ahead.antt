-- What the two calls of read-ahead leave, in the journal and at the queue of requests.
use Rattle.std.specs.Prelude.{◌≡◌, ℕ, Bool, true, false, List, Result, Ok, Err, is_some}
use Rattle.std.specs.declared.option.Option.{Option}
use Rattle.std.specs.declared.option.Option.TheVariants.{Some, None}
use Rattle.cc_entry.specs.Place.{File}
use Rattle.cc_entry.specs.declared.answer.AheadDone.{AheadDone}
use Rattle.cc_entry.specs.declared.call.Call.TheVariants as call
use Rattle.cc_entry.specs.declared.entry.Entry.{Entry}
use Rattle.cc_entry.specs.declared.error.CcError.{CcError}
use Rattle.cc_entry.specs.declared.error.CcError.TheVariants as error
use Rattle.cc_entry.specs.declared.place.Request.{Request}
use Rattle.cc_entry.specs.declared.reply.Outcome.{Outcome}
use Rattle.cc_entry.specs.declared.reply.Outcome.TheVariants as outcome
use Rattle.cc_entry.specs.declared.reply.Reply.TheVariants as reply
use Rattle.cc_book.specs.Book.{BookState, done, failed}
use Rattle.cc_effects.specs.Calls.{CallLeft}
use Rattle.cc_effects.specs.ReadAhead.{AheadLeft}
use Rattle.cc_journal.specs.Journal.{JournalState}
use Rattle.cc_model.specs.Good.{IsGood}
use Rattle.cc_model.specs.History.{history}
use Rattle.cc_model.specs.ReadAhead.{ahead_of}
use Rattle.cc_model.specs.Reasons.{is_open}
use Rattle.cc_model.specs.Refusals.{refusal}
use Rattle.cc_model.specs.Setup.{Setup}
use Rattle.cc_queue.specs.Places.{PlaceState, PushLeft, PopLeft, FoundFull}
use Rattle.cc_step.specs.Step.{AddsOwing, AttemptDone, AttemptRefused, IsStop, StandUnder}
use Rattle.cc_turns.specs.Standing.{Standing}
use Rattle.cc_calls.specs.Pages.{IsFullFor, StaysGood, TookDeviceFor, WentOn}

-- how the entry of a call for read-ahead says that it ended, whose caller was answered the request, or none, or failed
abbrev pub ahead_outcome : Result (Option Request) CcError → Outcome
ahead_outcome (Ok request) = outcome.Done (reply.Ahead request)
ahead_outcome (Err e) = outcome.Failed e

-- What a call for read-ahead that was answered so leaves at the queue: the request that it answers was pushed, and once; it
-- answers that the queue is full only where it found it so; and else its place is as it was.
abbrev pub AskedAt : Result (Option Request) CcError → PlaceState Request → PlaceState Request → Type 0
AskedAt (Ok (Some request)) was now = PushLeft request true was now
AskedAt (Err error.QueueFull) was now = FoundFull was now
AskedAt other was now = now ≡ was

-- The queue is full for a call for read-ahead: nothing refuses it, the reads of its object lead to a request, and its entry, which
-- says that it failed so, stands last.
pub record AskIsTurnedAway {Q : Type 0} (u : Setup) (pass : ℕ) (file : File) (at len : ℕ) (b c : BookState) (j k : JournalState Q)
    : Type 0 where
  pub admitted : refusal u j.entries (history j.entries b.stream) (call.AskAhead file at len) ≡ None
  pub wanted : is_some (ahead_of (history j.entries b.stream) file at len) ≡ true
  pub placed : AddsOwing (failed pass j.entries b.stream (call.AskAhead file at len) error.QueueFull) j k
  pub stand : StandUnder u c k
  pub same : c ≡ b

-- no room for the entry, or no memory, and nothing changed
pub record AheadIsStopped {Q : Type 0} (e : CcError) (b c : BookState) (j k : JournalState Q) : Type 0 where
  pub stop : IsStop 1 e j
  pub same_book : c ≡ b
  pub same_journal : k ≡ j

-- What a call for read-ahead that is answered so leaves of the book and of the journal in hand: its entry, or nothing for want
-- of room or of memory.
abbrev pub AskedIn : {Q : Type 0} → Setup → ℕ → File → ℕ → ℕ → Result (Option Request) CcError
    → BookState → BookState → JournalState Q → JournalState Q → Type 0
AskedIn u pass file at len (Ok request) b c j k = AttemptDone u pass (call.AskAhead file at len) (reply.Ahead request) b c j k
AskedIn u pass file at len (Err error.QueueFull) b c j k = AskIsTurnedAway u pass file at len b c j k
AskedIn u pass file at len (Err (error.JournalFull entries)) b c j k = AheadIsStopped (error.JournalFull entries) b c j k
AskedIn u pass file at len (Err error.NoMemory) b c j k = AheadIsStopped error.NoMemory b c j k
AskedIn u pass file at len (Err e) b c j k = AttemptRefused u pass (call.AskAhead file at len) e b c j k

-- What a call for read-ahead is to answer, given what the queue did with its request: what refuses it; the request that its
-- reads lead to, which was pushed, or none; or that the queue is full. Want of memory is free.
abbrev pub IsDecided : Setup → List Entry → ℕ → File → ℕ → ℕ → Result (Option Request) CcError → Type 0
IsDecided u past s file at len (Ok request) =
    (refusal u past (history past s) (call.AskAhead file at len) ≡ None) × (request ≡ ahead_of (history past s) file at len)
IsDecided u past s file at len (Err error.QueueFull) =
    (refusal u past (history past s) (call.AskAhead file at len) ≡ None)
    × (is_some (ahead_of (history past s) file at len) ≡ true)
IsDecided u past s file at len (Err error.NoMemory) = Unit {0}
IsDecided u past s file at len (Err e) = refusal u past (history past s) (call.AskAhead file at len) ≡ Some e

-- how the entry of a step says that it ended, which served a request
abbrev pub whole_outcome : Result Bool CcError → Outcome
whole_outcome (Ok whole) = outcome.Done (reply.Whole whole)
whole_outcome (Err e) = outcome.Failed e

-- A request was served, and answered so.
pub record RequestServed (old new : Standing) (request : Request) (answer : Result Bool CcError) : Type 0 where
  pub left : CallLeft old.setup old.number (call.AheadStep request) (whole_outcome answer) old.seen new.seen
  pub full : IsFullFor (call.AheadStep request) old new answer
  pub missed : TookDeviceFor (call.AheadStep request) old new
  pub goes_on : WentOn old new
  pub good : IsGood old.setup new.seen

-- A request was served by a step that was answered so.
abbrev pub IsServed : Standing → Standing → Request → Result (Option AheadDone) CcError → Type 0
IsServed old new request (Ok (Some done)) = (done.request ≡ request) × RequestServed old new request (Ok done.whole)
IsServed old new request (Ok None) = ⊥
IsServed old new request (Err e) = RequestServed old new request (Err e)

-- The entry of a step was placed in a journal that tells that it brought nothing in; or there was no room or no memory, and
-- nothing changed.
abbrev pub PassedOver : {Q : Type 0} → ℕ → Request → Result Bool CcError → JournalState Q → JournalState Q → Type 0
PassedOver pass request (Ok whole) j k =
    (whole ≡ false) × (is_open (history j.entries request.file.stream) request.file ≡ false)
    × AddsOwing (done pass j.entries request.file.stream (call.AheadStep request) (reply.Whole false)) j k
PassedOver pass request (Err e) j k = IsStop 1 e j × (k ≡ j)

-- Where a read-ahead step finds the journal full that took this request, there is no room as for every call that needs
-- pages. One that took none asks for none.
abbrev pub IsFullAheadStep : Option Request → Standing → Standing → Result (Option AheadDone) CcError → Type 0
IsFullAheadStep None old new answer = Unit {0}
IsFullAheadStep (Some request) old new answer = IsFullFor (call.AheadStep request) old new answer

-- A step that took this request took the turn of a disk only for a page of it that was not resident. One that took none took
-- no turn at all, and has seen nothing more.
abbrev pub TookFor : Option Request → Standing → Standing → Type 0
TookFor None old new = new ≡ old
TookFor (Some request) old new = TookDeviceFor (call.AheadStep request) old new

-- A read-ahead step was answered so: it took the first request of the queue, or found the queue empty; it left what explains
-- the answer for that request, which is spent whatever is answered; a journal that is full is full; the pass goes on as it
-- stood and may call again, and what it has seen stays good. So a request that is told to be whole has all its pages below
-- the size resident at the step's entry.
pub record StepEnds (old new : Standing) (was now : PlaceState Request) (answer : Result (Option AheadDone) CcError) : Type 0 where
  pub taken : Option Request
  pub popped : PopLeft taken was now
  pub left : AheadLeft old.setup old.number taken answer old.seen new.seen
  pub full : IsFullAheadStep taken old new answer
  pub turns : TookFor taken old new
  pub goes_on : WentOn old new
  pub good : StaysGood old new
