-- What a purge leaves on its way, from whichever moment it is under way, and at its end.
use Rattle.std.specs.Prelude.{◌≡◌, ℕ, ◌+◌, ◌<◌, ◌≤◌, ◌^◌, ◌⊎◌, Bool, true, Result, Ok, Err, List}
use Rattle.std.specs.declared.option.Option.{Option}
use Rattle.std.specs.declared.option.Option.TheVariants.{None, Some}
use Rattle.cc_entry.specs.Place.{File, Range}
use Rattle.cc_entry.specs.declared.call.Call.{Call}
use Rattle.cc_entry.specs.declared.call.Call.TheVariants as call
use Rattle.cc_entry.specs.declared.entry.Entry.{Entry}
use Rattle.cc_entry.specs.declared.entry.Entry.TheVariants as entry
use Rattle.cc_entry.specs.declared.error.CcError.{CcError}
use Rattle.cc_entry.specs.declared.reply.Outcome.TheVariants as outcome
use Rattle.cc_entry.specs.declared.reply.Reply.TheVariants as reply
use Rattle.cc_effects.specs.Calls.{CallLeft, IsUnderWay}
use Rattle.cc_model.specs.History.{history}
use Rattle.cc_model.specs.Ranges.{span_has}
use Rattle.cc_model.specs.Refusals.{refusal}
use Rattle.cc_model.specs.Residency.{is_resident}
use Rattle.cc_model.specs.Setup.{Setup}
use Rattle.cc_turns.specs.Standing.{Standing}
use Rattle.cc_turns.specs.Takes.{Grows}
use Rattle.cc_writes.specs.Calls.{IsFullWriting}
use Rattle.cc_writes.specs.Alone.{NobodyElseChanged}
use Rattle.cc_effects.specs.Begins.{BeginsAscending, TakesNoneOut}
use Rattle.cc_writes.specs.Visits.{HasPlaced}
use Rattle.cc_writes.specs.Ways.{IsFull}
use Rattle.cc_writes.specs.Work.{work_left}
use Rattle.cc_writes.specs.Writes.{IsToWrite}
use Rattle.cc_ranges.specs.Flush.{outcome_of}
use Rattle.cc_ranges.specs.declared.purge.Round.{Round}
use Rattle.cc_ranges.specs.declared.purge.Round.TheVariants as round
use Rattle.cc_ranges.specs.declared.purge_steps.PurgeNext.{PurgeNext}
use Rattle.cc_ranges.specs.declared.purge_steps.PurgeNext.TheVariants as next
use Rattle.cc_ranges.specs.declared.purge_visits.PurgeStep.{PurgeStep}
use Rattle.cc_ranges.specs.declared.purge_visits.PurgeStep.TheVariants as step

-- A purge is to write a page of its span, from one page on; nothing refuses it.
pub record PurgeIsAtPage (u : Setup) (file : File) (span : Option Range) (from page : ℕ) (past : List Entry) : Type 0 where
  pub admitted : refusal u past (history past file.stream) (call.Purge file span) ≡ None
  pub in_span : span_has span page ≡ true
  pub to_write : IsToWrite (record { stream = file.stream; page = page }) past
  pub from_is : from ≤ page
  pub numbered : page < 2 ^ 51

-- What the next step of a purge leaves of it, by cases: it was done, or failed, or is under way.
abbrev pub PurgeStepLeft : Setup → ℕ → File → Option Range → PurgeStep → List Entry → List Entry → Type 0
PurgeStepLeft u me file span (step.Ended answer) old new = CallLeft u me (call.Purge file span) (outcome_of answer) old new
PurgeStepLeft u me file span (step.Writes page) old new = IsUnderWay me (call.Purge file span) old new
PurgeStepLeft u me file span step.GoesOn old new = IsUnderWay me (call.Purge file span) old new

-- a page that is to be written
abbrev pub PurgeStepAsks : Setup → File → Option Range → ℕ → PurgeStep → List Entry → Type 0
PurgeStepAsks u file span from (step.Writes page) past = PurgeIsAtPage u file span from page past
PurgeStepAsks u file span from other past = Unit {0}

-- The purge was done: its entry is the last.
pub record PurgeHasEnded (w : Standing) (file : File) (span : Option Range) (seen : List Entry) : Type 0 where
  pub nth : ℕ
  pub placed : HasPlaced w (entry.Call w.number nth (Some file.stream) (call.Purge file span) (outcome.Done reply.Unit)) seen

-- A page of the stream went out: its entry is the last, and it was resident at that front.
pub record PurgedPageHasGone (w : Standing) (s : ℕ) (seen : List Entry) : Type 0 where
  pub page : ℕ
  pub placed : HasPlaced w (entry.PageOut w.number (record { stream = s; page = page })) seen
  pub resident : is_resident (history placed.front s) page ≡ true

-- The purge failed: its entry is the last, or it left none.
abbrev pub PurgeHasFailed : Standing → File → Option Range → CcError → List Entry → Type 0
PurgeHasFailed w file span e seen =
    ((nth : ℕ) × HasPlaced w (entry.Call w.number nth (Some file.stream) (call.Purge file span) (outcome.Failed e)) seen)
    ⊎ Grows w seen

-- What a step placed, by cases over it: away from the stream's first page it may go on with nothing placed.
abbrev pub PurgeStepPlaced : Standing → File → Option Range → ℕ → PurgeStep → List Entry → Type 0
PurgeStepPlaced w file span from (step.Ended (Ok done)) seen = PurgeHasEnded w file span seen
PurgeStepPlaced w file span from (step.Ended (Err e)) seen = PurgeHasFailed w file span e seen
PurgeStepPlaced w file span from (step.Writes page) seen = Grows w seen
PurgeStepPlaced w file span from step.GoesOn seen = PurgedPageHasGone w file.stream seen ⊎ ((0 < from) × Grows w seen)

-- a purge that found no room, with one place asked
abbrev pub IsFullPurgeStep : Standing → PurgeStep → Type 0
IsFullPurgeStep w (step.Ended answer) = IsFull 1 w answer
IsFullPurgeStep w other = Unit {0}

-- the step that was taken on the book
abbrev pub purge_step_of : PurgeNext → PurgeStep
purge_step_of next.Done = step.Ended (Ok tt)
purge_step_of (next.Refused e) = step.Ended (Err e)
purge_step_of (next.Writes page) = step.Writes page
purge_step_of next.Cleaned = step.GoesOn
purge_step_of next.WentOut = step.GoesOn
purge_step_of (next.Stopped e) = step.Ended (Err e)

-- What a round of a purge leaves of it, by cases: it was done, or failed, or is under way.
abbrev pub PurgeRoundLeft : Setup → ℕ → File → Option Range → Round → List Entry → List Entry → Type 0
PurgeRoundLeft u me file span (round.Ended answer) old new = CallLeft u me (call.Purge file span) (outcome_of answer) old new
PurgeRoundLeft u me file span (round.CameTo to) old new = IsUnderWay me (call.Purge file span) old new
PurgeRoundLeft u me file span round.GoesOn old new = IsUnderWay me (call.Purge file span) old new

-- a round of a purge that found no room for one entry, or none for the transfer of a page that is to be written then
abbrev pub IsFullPurgeRound : Call → Standing → Round → Type 0
IsFullPurgeRound it w (round.Ended answer) = IsFullWriting it w answer
IsFullPurgeRound it w other = Unit {0}

-- A page to which it has come is past the one from which it went on.
abbrev pub PurgeRoundRises : Round → ℕ → Type 0
PurgeRoundRises (round.CameTo to) from = (from < to) × (to ≤ 2 ^ 51)
PurgeRoundRises other from = Unit {0}

-- what a round answers for the purge, where it ended it
abbrev pub ended_of : Round → Option (Result (Unit {0}) CcError)
ended_of (round.Ended answer) = Some answer
ended_of (round.CameTo to) = None
ended_of round.GoesOn = None

-- how far a purge came that wrote a page, or failed
abbrev pub purge_round_of : Result Call CcError → ℕ → Round
purge_round_of (Ok again) page = round.CameTo (page + 1)
purge_round_of (Err e) page = round.Ended (Err e)

-- A pass went up the pages of a stream once: from one moment to another the transfers that it began ascend, below a page,
-- so it wrote each page at most once; and it took none out.
pub record WentUpOnce (me to : ℕ) (old new : List Entry) : Type 0 where
  pub begun : BeginsAscending me 0 to old new
  pub stays : TakesNoneOut me old new

-- A span was emptied with nobody else there: the pass went up its pages once, and from the moment at which it had come
-- to their end nobody else changed the stream.
pub record WasEmptiedAlone (me s : ℕ) (old new : List Entry) : Type 0 where
  pub to : ℕ
  pub moment : List Entry
  pub first : WentUpOnce me to old moment
  pub alone : NobodyElseChanged me s moment new

-- How far a purge had come that failed: it was on its way up its pages, or had come to their end, and from then on nobody
-- else changed the stream.
abbrev pub PurgeCameSoFar : ℕ → ℕ → List Entry → List Entry → Type 0
PurgeCameSoFar me s old new = ((to : ℕ) × WentUpOnce me to old new) ⊎ WasEmptiedAlone me s old new

-- In a round the transfers that were begun are of pages from one on and below another, and none went out.
pub record PurgeHasWritten (me from to : ℕ) (old new : List Entry) : Type 0 where
  pub begun : BeginsAscending me from to old new
  pub stays : TakesNoneOut me old new

-- What a round placed, by cases over it: where it wrote a page, or failed, and the book was kept, nobody else changed the
-- stream meanwhile; or nobody else did in any case.
abbrev pub RoundPlaced : ℕ → ℕ → ℕ → Bool → Round → List Entry → List Entry → Type 0
RoundPlaced me s from keeps (round.Ended (Ok done)) old new = NobodyElseChanged me s old new
RoundPlaced me s from keeps (round.Ended (Err e)) old new =
    ((to : ℕ) × PurgeHasWritten me from to old new) × (keeps ≡ true → NobodyElseChanged me s old new)
RoundPlaced me s from keeps (round.CameTo to) old new =
    PurgeHasWritten me from to old new × (keeps ≡ true → NobodyElseChanged me s old new)
RoundPlaced me s from keeps round.GoesOn old new = NobodyElseChanged me s old new

-- what is left until no page of a stream is dirty or resident, while nobody else changes the stream
abbrev pub left_to_empty : ℕ → List Entry → ℕ
left_to_empty s past = work_left (history past s) (Some (record { from = 0; to = 0 }))

-- a purge that goes on has less left to do
abbrev pub PurgeHasLess : ℕ → Round → List Entry → List Entry → Type 0
PurgeHasLess s (round.Ended answer) old new = Unit {0}
PurgeHasLess s other old new = left_to_empty s new < left_to_empty s old
