-- What a purge leaves, and what holds of its span where it was done.
use Rattle.std.specs.Prelude.{◌≡◌, ℕ, true, false, Result, IfErr, OnOk, List, ◌∷◌, ◌++◌}
use Rattle.std.specs.declared.option.Option.{Option}
use Rattle.std.specs.declared.option.Option.TheVariants.{Some}
use Rattle.cc_entry.specs.Place.{File, Range}
use Rattle.cc_entry.specs.declared.call.Call.TheVariants as call
use Rattle.cc_entry.specs.declared.entry.Entry.{Entry}
use Rattle.cc_entry.specs.declared.entry.Entry.TheVariants as entry
use Rattle.cc_entry.specs.declared.error.CcError.{CcError}
use Rattle.cc_entry.specs.declared.reply.Outcome.TheVariants as outcome
use Rattle.cc_entry.specs.declared.reply.Reply.TheVariants as reply
use Rattle.cc_effects.specs.Calls.{CallLeft}
use Rattle.cc_effects.specs.Moments.{Others}
use Rattle.cc_model.specs.Good.{IsGood}
use Rattle.cc_model.specs.History.{history}
use Rattle.cc_model.specs.Ranges.{span_has}
use Rattle.cc_model.specs.Residency.{is_resident}
use Rattle.cc_ranges.specs.Purge.{PurgeCameSoFar, WasEmptiedAlone}
use Rattle.cc_turns.specs.Standing.{Standing}
use Rattle.cc_writes.specs.Calls.{IsFullWriting}
use Rattle.cc_calls.specs.Answers.{outcome_of}
use Rattle.cc_calls.specs.Pages.{WentOn}

-- The purge was done behind a front at which no page of its span was resident.
pub record IsPurged (me : ℕ) (file : File) (span : Option Range) (old new : List Entry) : Type 0 where
  pub nth : ℕ
  pub earlier : List Entry
  pub later : List Entry
  pub grew :
      new
      ≡ later
      ++ (entry.Call me nth (Some file.stream) (call.Purge file span) (outcome.Done reply.Unit) ∷ (earlier ++ old))
  pub quiet : Others me later
  pub none : (p : ℕ) → span_has span p ≡ true → is_resident (history (earlier ++ old) file.stream) p ≡ false

-- A purge of a span was answered so: it left what explains its answer; where it finds the journal full, there is no room for
-- one entry, or for the two of the transfer of a page that is to be written then; the pass goes on as it stood and may call
-- again, and what it has seen is good. Where it was done, no page of the span was resident, and nobody else changed the
-- stream while it was emptied. Where it failed, it was on its way up its pages, each written at most once and none taken
-- out, or nobody else changed the stream since it had come to their end.
pub record PurgeEnds (old new : Standing) (file : File) (span : Option Range)
    (answer : Result (Unit {0}) CcError) : Type 0 where
  pub left : CallLeft old.setup old.number (call.Purge file span) (outcome_of answer) old.seen new.seen
  pub full : IsFullWriting (call.Purge file span) new answer
  pub goes_on : WentOn old new
  pub good : IsGood old.setup new.seen
  pub purged : OnOk answer (IsPurged old.number file span old.seen new.seen)
  pub emptied : OnOk answer (WasEmptiedAlone old.number file.stream old.seen new.seen)
  pub failed : IfErr answer (λ error. PurgeCameSoFar old.number file.stream old.seen new.seen)
