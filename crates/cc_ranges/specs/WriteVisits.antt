-- What the write of a page leaves on its way, from whichever moment it is under way, until the page is ready to be stored.
use Rattle.std.specs.Prelude.{◌≡◌, ℕ, true, false, List}
use Rattle.std.specs.declared.option.Option.TheVariants.{None}
use Rattle.cc_entry.specs.Place.{File}
use Rattle.cc_entry.specs.declared.call.Call.TheVariants as call
use Rattle.cc_entry.specs.declared.entry.Entry.{Entry}
use Rattle.cc_entry.specs.declared.error.CcError.{CcError}
use Rattle.cc_entry.specs.declared.reply.Outcome.TheVariants as outcome
use Rattle.cc_effects.specs.Asked.{Calls, is_in_the_way}
use Rattle.cc_effects.specs.Calls.{CallLeft, IsUnderWay}
use Rattle.cc_effects.specs.Noncached.{is_of_shape}
use Rattle.cc_model.specs.History.{history}
use Rattle.cc_model.specs.Refusals.{refusal}
use Rattle.cc_model.specs.Setup.{Setup}
use Rattle.cc_turns.specs.Standing.{Standing}
use Rattle.cc_turns.specs.Takes.{Grows}
use Rattle.cc_writes.specs.Visits.{HasGoneOut}
use Rattle.cc_writes.specs.Ways.{IsAtWork, IsFullError}
use Rattle.cc_writes.specs.Writes.{IsToWrite}
use Rattle.cc_ranges.specs.Stores.{IsReadyToStore}
use Rattle.cc_ranges.specs.declared.write_steps.WriteNext.{WriteNext}
use Rattle.cc_ranges.specs.declared.write_steps.WriteNext.TheVariants as next
use Rattle.cc_ranges.specs.declared.write_visits.WriteStep.{WriteStep}
use Rattle.cc_ranges.specs.declared.write_visits.WriteStep.TheVariants as step
use Rattle.cc_ranges.specs.ReadVisits.{file_page}

-- The write of a page is under way since a moment, and its page is not stored: what the pass placed since, it may place
-- for the store as for the write.
pub record WriteIsUnderWay (me : ℕ) (file : File) (page : ℕ) (old new : List Entry) : Type 0 where
  pub way : IsUnderWay me (call.NcWrite file page) old new
  pub stores : (bytes : List ℕ) → IsAtWork me (Calls (call.NcStore file page bytes)) old new

-- the write of a page failed before its store, with an error that tells nothing of a place or a length
abbrev pub WriteIsTurnedAway : Setup → ℕ → File → ℕ → CcError → List Entry → List Entry → Type 0
WriteIsTurnedAway u me file page e old new =
    (is_of_shape e ≡ false) × CallLeft u me (call.NcWrite file page) (outcome.Failed e) old new

-- What the next step leaves of the write of a page, by cases: it failed, or is under way.
abbrev pub WriteStepLeft : Setup → ℕ → File → ℕ → WriteStep → List Entry → List Entry → Type 0
WriteStepLeft u me file page (step.Ended e) old new = WriteIsTurnedAway u me file page e old new
WriteStepLeft u me file page step.Ready old new = WriteIsUnderWay me file page old new
WriteStepLeft u me file page (step.Writes dirty) old new = WriteIsUnderWay me file page old new
WriteStepLeft u me file page step.GoesOn old new = WriteIsUnderWay me file page old new

-- A page is to be written to make room for another one, whose write nothing refuses.
pub record IsInTheWay (u : Setup) (file : File) (page dirty : ℕ) (past : List Entry) : Type 0 where
  pub admitted : refusal u past (history past file.stream) (call.NcWrite file page) ≡ None
  pub in_the_way : is_in_the_way (call.NcWrite file page) (file_page file dirty) past ≡ true
  pub to_write : IsToWrite (file_page file dirty) past

-- what the step asks
abbrev pub WriteStepAsks : Setup → File → ℕ → WriteStep → List Entry → Type 0
WriteStepAsks u file page (step.Ended e) past = Unit {0}
WriteStepAsks u file page step.Ready past = IsReadyToStore u past file (file_page file page)
WriteStepAsks u file page (step.Writes dirty) past = IsInTheWay u file page dirty past
WriteStepAsks u file page step.GoesOn past = Unit {0}

-- What a step placed, by cases: nothing, or that a page of the block to give up went out.
abbrev pub WriteStepPlaced : Standing → File → ℕ → WriteStep → List Entry → Type 0
WriteStepPlaced w file page (step.Ended e) seen = Unit {0}
WriteStepPlaced w file page step.Ready seen = Unit {0}
WriteStepPlaced w file page (step.Writes dirty) seen = Grows w seen
WriteStepPlaced w file page step.GoesOn seen = HasGoneOut w file.stream (call.NcWrite file page) seen

-- a write that found no room, with one place asked
abbrev pub IsFullWriteStep : Standing → WriteStep → Type 0
IsFullWriteStep w (step.Ended e) = IsFullError 1 w e
IsFullWriteStep w other = Unit {0}

-- the step that was taken on the book
abbrev pub write_step_of : WriteNext → WriteStep
write_step_of (next.Refused e) = step.Ended e
write_step_of next.Ready = step.Ready
write_step_of next.WentOut = step.GoesOn
write_step_of (next.Writes dirty) = step.Writes dirty
write_step_of (next.Stopped e) = step.Ended e
