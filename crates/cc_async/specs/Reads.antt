-- What a read that may be queued leaves, and what a step leaves that completes one, in the journal and at the queue.
use Rattle.std.specs.Prelude.{◌≡◌, ℕ, suc, ◌<◌, ◌-◌, ◌^◌, Bool, true, false, List, ◌∷◌, ◌++◌, length, Result, Ok, Err, IfOk}
use Rattle.std.specs.declared.option.Option.{Option}
use Rattle.std.specs.declared.option.Option.TheVariants.{Some, None}
use Rattle.cc_entry.specs.Place.{File}
use Rattle.cc_entry.specs.declared.answer.AsyncDone.{AsyncDone}
use Rattle.cc_entry.specs.declared.answer.AsyncId.{AsyncId}
use Rattle.cc_entry.specs.declared.answer.AsyncStart.{AsyncStart}
use Rattle.cc_entry.specs.declared.answer.AsyncStart.TheVariants as start
use Rattle.cc_entry.specs.declared.call.Call.TheVariants as call
use Rattle.cc_entry.specs.declared.entry.Entry.{Entry}
use Rattle.cc_entry.specs.declared.entry.Entry.TheVariants as entry
use Rattle.cc_entry.specs.declared.error.CcError.{CcError}
use Rattle.cc_entry.specs.declared.error.CcError.TheVariants as error
use Rattle.cc_entry.specs.declared.reply.Outcome.{Outcome}
use Rattle.cc_entry.specs.declared.reply.Outcome.TheVariants as outcome
use Rattle.cc_entry.specs.declared.reply.Reply.TheVariants as reply
use Rattle.cc_book.specs.Book.{failed}
use Rattle.cc_effects.specs.Calls.{CallLeft}
use Rattle.cc_effects.specs.Moments.{Between}
use Rattle.cc_journal.specs.Journal.{JournalState}
use Rattle.cc_model.specs.Good.{IsGood}
use Rattle.cc_model.specs.History.{history}
use Rattle.cc_model.specs.Reasons.{is_open}
use Rattle.cc_model.specs.Replies.{Reads}
use Rattle.cc_model.specs.Setup.{Setup}
use Rattle.cc_queue.specs.Places.{PlaceState, PushLeft, PopLeft, FoundFull}
use Rattle.cc_step.specs.Step.{AddsOwing, IsStop}
use Rattle.cc_turns.specs.Standing.{Standing}
use Rattle.cc_writes.specs.Hands.{Went}
use Rattle.cc_calls.specs.Pages.{IsFullFor, CallWithPagesLeft, StaysGood, WentOn}
use Rattle.cc_async.specs.declared.queue.QueuedRead.{QueuedRead}

-- ---- one read

-- how the entry of a read says that it ended, whose caller was answered these bytes, or failed
abbrev pub bytes_outcome : Result (List ℕ) CcError → Outcome
bytes_outcome (Ok bytes) = outcome.Done (reply.Read bytes)
bytes_outcome (Err e) = outcome.Failed e

-- The pass placed the entry of a read between two moments, and what was answered is what the plain file has at the place of
-- that entry: over a disk that does not tell its opening pages, as many bytes, with zeros from the valid data length on.
pub record ReadIsPlain (u : Setup) (me : ℕ) (file : File) (at len : ℕ) (wait : Bool) (bytes : List ℕ) (old new : List Entry)
    : Type 0 where
  pub nth : ℕ
  pub later : List Entry
  pub earlier : List Entry
  pub grew : new ≡ later
      ++ (entry.Call me nth (Some file.stream) (call.CopyRead file at len wait) (outcome.Done (reply.Read bytes))
      ∷ (earlier ++ old))
  pub reads : Reads (u.opening file.stream) (history (earlier ++ old) file.stream) at len (reply.Read bytes)

-- A read was answered so: it left what explains that, a journal that is full is full, and the turn of a disk was taken only
-- for a page that was not resident, and for none by a read that may not wait. Bytes that were answered are the plain file's.
pub record AsyncReadLeft (old new : Standing) (file : File) (at len : ℕ) (wait : Bool) (answer : Result (List ℕ) CcError)
    : Type 0 where
  pub pages : CallWithPagesLeft old new (call.CopyRead file at len wait) (bytes_outcome answer)
  pub full : IsFullFor (call.CopyRead file at len wait) old new answer
  pub plain : IsGood old.setup old.seen →
      IfOk answer (λ bytes. ReadIsPlain old.setup old.number file at len wait bytes old.seen new.seen)
  pub no_wait : wait ≡ false → new.device_turns ≡ old.device_turns

-- A queued read was refused with the journal in hand: its object is not open, and its entry says so; or there was no room or
-- no memory, and nothing changed.
abbrev pub IsRefusedIn : {Q : Type 0} → ℕ → QueuedRead → CcError → JournalState Q → JournalState Q → Type 0
IsRefusedIn pass read error.NotCached j k =
    (is_open (history j.entries read.file.stream) read.file ≡ false)
    × AddsOwing
    (failed pass j.entries read.file.stream (call.CopyRead read.file read.at read.len true) error.NotCached) j k
IsRefusedIn pass read e j k = IsStop 1 e j × (k ≡ j)

-- ---- the read that may be queued

-- At this place not all numbers were given to reads.
abbrev pub HasNumber : PlaceState QueuedRead → Type 0
HasNumber place = length place.pushed < 2 ^ 64 - 1

-- A read was queued under its number, or there was no place for it.
abbrev pub ReadIsQueued : AsyncId → File → ℕ → ℕ → Result AsyncStart CcError → PlaceState QueuedRead → PlaceState QueuedRead → Type 0
ReadIsQueued id file at len (Ok (start.Queued told)) was now =
    (told ≡ id) × PushLeft (record { id = id; file = file; at = at; len = len }) true was now
ReadIsQueued id file at len (Ok (start.Ready bytes)) was now = ⊥
ReadIsQueued id file at len (Err error.QueueFull) was now = FoundFull was now
ReadIsQueued id file at len (Err e) was now = ⊥

-- A read that may not wait left the entry of its refusal, since a page was not resident.
abbrev pub WasMissing : Setup → ℕ → File → ℕ → ℕ → Between
WasMissing u me file at len old new =
    (page : ℕ) × CallLeft u me (call.CopyRead file at len false) (outcome.Failed (error.NotResident page)) old new

-- What a read that may be queued leaves: the bytes that are ready are those of its entry; one that was queued, or found the
-- queue full, was refused since a page was not resident; and no other was refused so.
abbrev pub StartLeft : Setup → ℕ → File → ℕ → ℕ → Result AsyncStart CcError → Between
StartLeft u me file at len (Ok (start.Ready bytes)) old new =
    CallLeft u me (call.CopyRead file at len false) (outcome.Done (reply.Read bytes)) old new
StartLeft u me file at len (Ok (start.Queued id)) old new = WasMissing u me file at len old new
StartLeft u me file at len (Err error.QueueFull) old new = WasMissing u me file at len old new
StartLeft u me file at len (Err (error.NotResident page)) old new = ⊥
StartLeft u me file at len (Err e) old new = CallLeft u me (call.CopyRead file at len false) (outcome.Failed e) old new

-- What such a read that was answered so leaves at the queue. It was queued under the next number of its pass, counted from 1;
-- it answers that the queue is full only where it found it so; and else its place is as it was.
abbrev pub StartedAt : ℕ → File → ℕ → ℕ → Result AsyncStart CcError → PlaceState QueuedRead → PlaceState QueuedRead → Type 0
StartedAt me file at len (Ok (start.Ready bytes)) was now = now ≡ was
StartedAt me file at len (Ok (start.Queued id)) was now =
    (id ≡ record { pass = me; n = suc (length was.pushed) })
    × PushLeft (record { id = id; file = file; at = at; len = len }) true was now
StartedAt me file at len (Err error.QueueFull) was now = FoundFull was now
StartedAt me file at len (Err e) was now = now ≡ was

-- the bytes of a read that was not queued are the plain file's
abbrev pub IsReadyPlain : Setup → ℕ → File → ℕ → ℕ → Result AsyncStart CcError → List Entry → List Entry → Type 0
IsReadyPlain u me file at len (Ok (start.Ready bytes)) old new = ReadIsPlain u me file at len false bytes old new
IsReadyPlain u me file at len other old new = Unit {0}

-- A read that may be queued was answered so: it left what explains that, at the queue too; a journal that is full is full; the
-- pass goes on as it stood, without a turn of a disk, and what it has seen stays good. Bytes that are ready are the plain
-- file's.
pub record StartEnds (old new : Standing) (file : File) (at len : ℕ) (was now : PlaceState QueuedRead)
    (answer : Result AsyncStart CcError) : Type 0 where
  pub left : StartLeft old.setup old.number file at len answer old.seen new.seen
  pub started : StartedAt old.number file at len answer was now
  pub plain : IsGood old.setup old.seen → IsReadyPlain old.setup old.number file at len answer old.seen new.seen
  pub full : IsFullFor (call.CopyRead file at len false) old new answer
  pub goes_on : Went old new
  pub good : StaysGood old new

-- ---- the step

-- the read that was completed, as it was queued
abbrev pub completed_read : AsyncDone → QueuedRead
completed_read done = record { id = done.id; file = done.file; at = done.at; len = done.len }

-- the read that a step took, by its answer
abbrev pub taken_of : Option AsyncDone → Option QueuedRead
taken_of None = None
taken_of (Some done) = Some (completed_read done)

-- A step that took a read made it as one that waits, and has its answer. One that took none took no turn, and has seen nothing
-- more.
abbrev pub CompletionLeft : Standing → Standing → Option AsyncDone → Type 0
CompletionLeft old new None = new ≡ old
CompletionLeft old new (Some done) = AsyncReadLeft old new done.file done.at done.len true done.answer

-- A step was answered so: it took the first read of the queue, or found the queue empty; what it took it completed; the pass
-- goes on as it stood and may call again, and what it has seen stays good.
pub record CompletionEnds (old new : Standing) (was now : PlaceState QueuedRead) (answer : Option AsyncDone) : Type 0 where
  pub taken : PopLeft (taken_of answer) was now
  pub left : CompletionLeft old new answer
  pub goes_on : WentOn old new
  pub good : StaysGood old new
