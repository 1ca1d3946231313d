-- What a flush leaves on its way, from whichever moment it is under way, and at its end.
use Rattle.std.specs.Prelude.{◌≡◌, ℕ, ◌+◌, ◌<◌, ◌≤◌, ◌^◌, true, Result, Ok, Err, List, ◌∷◌, ◌++◌, length}
use Rattle.std.specs.declared.option.Option.{Option}
use Rattle.std.specs.declared.option.Option.TheVariants.{None}
use Rattle.cc_entry.specs.Place.{File, Range}
use Rattle.cc_entry.specs.declared.call.Call.{Call}
use Rattle.cc_entry.specs.declared.call.Call.TheVariants as call
use Rattle.cc_entry.specs.declared.entry.Entry.{Entry}
use Rattle.cc_entry.specs.declared.entry.Entry.TheVariants as entry
use Rattle.cc_entry.specs.declared.entry.End.{End}
use Rattle.cc_entry.specs.declared.entry.End.TheVariants as how
use Rattle.cc_entry.specs.declared.error.CcError.{CcError}
use Rattle.cc_entry.specs.declared.error.CcError.TheVariants as error
use Rattle.cc_entry.specs.declared.reply.Outcome.{Outcome}
use Rattle.cc_entry.specs.declared.reply.Outcome.TheVariants as outcome
use Rattle.cc_entry.specs.declared.reply.Reply.TheVariants as reply
use Rattle.cc_effects.specs.Asked.{Calls}
use Rattle.cc_effects.specs.Calls.{CallLeft, IsUnderWay, IsSynced}
use Rattle.cc_effects.specs.Moments.{IsIdle}
use Rattle.cc_effects.specs.Places.{Works}
use Rattle.cc_effects.specs.Stops.{IsUnstopped}
use Rattle.cc_model.specs.History.{history}
use Rattle.cc_model.specs.Ranges.{span_has, first_of_span}
use Rattle.cc_model.specs.Refusals.{refusal}
use Rattle.cc_model.specs.Setup.{Setup}
use Rattle.cc_turns.specs.Standing.{Standing}
use Rattle.cc_effects.specs.Begins.{BeginsAscending, BeginsNone}
use Rattle.cc_writes.specs.Calls.{IsFullWriting}
use Rattle.cc_writes.specs.Hands.{Went, WentWith}
use Rattle.cc_writes.specs.Ways.{IsFullError, IsHalted}
use Rattle.cc_writes.specs.Writes.{IsToWrite, WorkWantedMemory}
use Rattle.cc_ranges.specs.Settled.{IsSettledTo, IsSettledAll}
use Rattle.cc_ranges.specs.declared.flush.Round.{Round}
use Rattle.cc_ranges.specs.declared.flush.Round.TheVariants as round
use Rattle.cc_ranges.specs.declared.flush_steps.FlushEnd.{FlushEnd}
use Rattle.cc_ranges.specs.declared.flush_steps.FlushEnd.TheVariants as finished
use Rattle.cc_ranges.specs.declared.flush_steps.FlushNext.{FlushNext}
use Rattle.cc_ranges.specs.declared.flush_steps.FlushNext.TheVariants as next
use Rattle.cc_ranges.specs.declared.flush_visits.FlushStep.{FlushStep}
use Rattle.cc_ranges.specs.declared.flush_visits.FlushStep.TheVariants as step

-- how the entry of a flush says that it ended, whose caller was answered so
abbrev pub outcome_of : Result (Unit {0}) CcError → Outcome
outcome_of (Ok done) = outcome.Done reply.Unit
outcome_of (Err e) = outcome.Failed e

-- A flush is under way since a moment, and each touch of a page of the span below this one that was there at the
-- moment is written or cut.
pub record IsFlushing (me : ℕ) (file : File) (span : Option Range) (to : ℕ) (old new : List Entry) : Type 0 where
  pub way : IsUnderWay me (call.Flush file span) old new
  pub settled : IsSettledTo to (length (history old file.stream)) (history new file.stream) span

-- It is to write this page, and has come as far; nothing refuses it.
pub record FlushIsAtPage (u : Setup) (me : ℕ) (file : File) (span : Option Range) (page : ℕ) (old new : List Entry)
    : Type 0 where
  pub flushing : IsFlushing me file span page old new
  pub admitted : refusal u new (history new file.stream) (call.Flush file span) ≡ None
  pub in_span : span_has span page ≡ true
  pub to_write : IsToWrite (record { stream = file.stream; page = page }) new

-- It has come to the end of the span, and is to sync; nothing refuses it.
pub record IsAtSync (u : Setup) (me : ℕ) (file : File) (span : Option Range) (old new : List Entry) : Type 0 where
  pub way : IsUnderWay me (call.Flush file span) old new
  pub settled : IsSettledAll (length (history old file.stream)) (history new file.stream) span
  pub admitted : refusal u new (history new file.stream) (call.Flush file span) ≡ None

-- It has synced well, and nothing stopped it.
pub record FlushHasSynced (me : ℕ) (file : File) (span : Option Range) (old new : List Entry) : Type 0 where
  pub during : List Entry
  pub grew : new ≡ during ++ old
  pub works : Works me (Calls (call.Flush file span)) during old
  pub unstopped : IsUnstopped me during
  pub synced : IsSynced me file.stream span during old

-- Its sync failed, which stopped it; nothing refused it before.
abbrev pub HasFailedSync : Setup → ℕ → File → Option Range → List Entry → List Entry → Type 0
HasFailedSync u me file span old new =
    IsHalted u me file.stream (call.Flush file span) (error.WriteFault (first_of_span span)) old new

-- What there is to end, by how the sync ended: it has synced, or the sync failed, or found no memory.
abbrev pub IsAtEnd : Setup → ℕ → File → Option Range → End → List Entry → List Entry → Type 0
IsAtEnd u me file span how.Good old new = FlushHasSynced me file span old new
IsAtEnd u me file span how.Failed old new = HasFailedSync u me file span old new
IsAtEnd u me file span how.NoMemory old new = WorkWantedMemory me (Calls (call.Flush file span)) old new

-- What the next step of a flush leaves of it, by cases.
abbrev pub FlushStepLeft : Setup → ℕ → File → Option Range → FlushStep → List Entry → List Entry → Type 0
FlushStepLeft u me file span (step.Ended e) old new = CallLeft u me (call.Flush file span) (outcome.Failed e) old new
FlushStepLeft u me file span (step.Writes page) old new = FlushIsAtPage u me file span page old new
FlushStepLeft u me file span step.Syncs old new = IsAtSync u me file span old new

-- The pass goes on as it stood; before a sync it has a place reserved for the entry.
abbrev pub FlushStepWent : FlushStep → Standing → Standing → Type 0
FlushStepWent step.Syncs old new = WentWith 1 old new
FlushStepWent other old new = Went old new

-- a flush that found no room, with one place asked
abbrev pub IsFullFlushStep : Standing → FlushStep → Type 0
IsFullFlushStep w (step.Ended e) = IsFullError 1 w e
IsFullFlushStep w other = Unit {0}

-- A page that is to be written is the least dirty one of the span from this page on.
abbrev pub FlushStepAscends : FlushStep → ℕ → Type 0
FlushStepAscends (step.Writes page) from = (from ≤ page) × (page < 2 ^ 51)
FlushStepAscends other from = Unit {0}

-- the step that was taken on the book, and how the caller of a flush is answered that ended so
abbrev pub flush_step_of : FlushNext → FlushStep
flush_step_of (next.Refused e) = step.Ended e
flush_step_of (next.Writes page) = step.Writes page
flush_step_of next.Syncs = step.Syncs
flush_step_of (next.Stopped e) = step.Ended e

abbrev pub flush_answer : FlushEnd → Result (Unit {0}) CcError
flush_answer finished.Done = Ok tt
flush_answer (finished.Refused e) = Err e
flush_answer (finished.Stopped e) = Err e

-- What a round of a flush leaves of it, by cases: it failed, has come to a page, or is to sync.
abbrev pub FlushRoundLeft : Setup → ℕ → File → Option Range → Round → List Entry → List Entry → Type 0
FlushRoundLeft u me file span (round.Ended e) old new = CallLeft u me (call.Flush file span) (outcome.Failed e) old new
FlushRoundLeft u me file span (round.CameTo to) old new = IsFlushing me file span to old new
FlushRoundLeft u me file span round.Syncs old new = IsAtSync u me file span old new

abbrev pub RoundWent : Round → Standing → Standing → Type 0
RoundWent round.Syncs old new = WentWith 1 old new
RoundWent other old new = Went old new

-- a round of a flush that found no room for one entry, or none for the transfer of a page that is to be written then
abbrev pub IsFullFlushRound : Call → Standing → Round → Type 0
IsFullFlushRound it w (round.Ended e) = IsFullWriting {A = Unit {0}} it w (Err e)
IsFullFlushRound it w other = Unit {0}

-- A page to which it has come is past the one from which it went on.
abbrev pub FlushRoundRises : Round → ℕ → Type 0
FlushRoundRises (round.CameTo to) from = (from < to) × (to ≤ 2 ^ 51)
FlushRoundRises other from = Unit {0}

-- The pages that it began to write in a round ascend, from the one to which it had come on: it has come past each, or
-- failed.
abbrev pub RoundBegins : ℕ → Round → ℕ → List Entry → List Entry → Type 0
RoundBegins me (round.Ended e) from old new = BeginsAscending me from (2 ^ 51) old new
RoundBegins me (round.CameTo to) from old new = BeginsAscending me from to old new
RoundBegins me round.Syncs from old new = BeginsNone me old new

-- how far a flush came that wrote a page, or failed
abbrev pub flush_round_of : Result Call CcError → ℕ → Round
flush_round_of (Ok again) page = round.CameTo (page + 1)
flush_round_of (Err e) page = round.Ended e

-- Others went on, then the pass placed the entry of its sync, and others went on.
pub record IsSyncTold (w : Standing) (s : ℕ) (end : End) (seen : List Entry) : Type 0 where
  pub front : List Entry
  pub before : IsIdle w.number w.seen front
  pub after : IsIdle w.number (entry.Sync w.number s end ∷ front) seen
