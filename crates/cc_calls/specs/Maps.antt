-- What the end of a private cache map leaves.
use Rattle.std.specs.Prelude.{◌≡◌, ℕ, Bool, true, not, Result, IfOk, List, ◌∷◌, ◌++◌}
use Rattle.std.specs.declared.option.Option.{Option}
use Rattle.std.specs.declared.option.Option.TheVariants.{Some}
use Rattle.cc_entry.specs.Place.{File}
use Rattle.cc_entry.specs.declared.call.Call.{Call}
use Rattle.cc_entry.specs.declared.call.Call.TheVariants as call
use Rattle.cc_entry.specs.declared.entry.Entry.{Entry}
use Rattle.cc_entry.specs.declared.entry.Entry.TheVariants as entry
use Rattle.cc_entry.specs.declared.error.CcError.{CcError}
use Rattle.cc_entry.specs.declared.reply.Outcome.TheVariants as outcome
use Rattle.cc_entry.specs.declared.reply.Reply.TheVariants as reply
use Rattle.cc_entry.specs.declared.query.Value.TheVariants as value
use Rattle.cc_effects.specs.Moments.{Others}
use Rattle.cc_model.specs.History.{history}
use Rattle.cc_model.specs.Touches.{is_mapped}
use Rattle.cc_turns.specs.Standing.{Standing}
use Rattle.cc_calls.specs.Answers.{CallEnds, flag_outcome}

-- The call was done behind a front at which its stream had a shared map, and answered whether the map went with it.
pub record HasClosed (me s : ℕ) (it : Call) (gone : Bool) (old new : List Entry) : Type 0 where
  pub nth : ℕ
  pub earlier : List Entry
  pub later : List Entry
  pub grew : new ≡ later ++ (entry.Call me nth (Some s) it (outcome.Done (reply.Value (value.Flag gone))) ∷ (earlier ++ old))
  pub quiet : Others me later
  pub was : is_mapped (history (earlier ++ old) s) ≡ true
  pub now :
      is_mapped (history (entry.Call me nth (Some s) it (outcome.Done (reply.Value (value.Flag gone))) ∷ (earlier ++ old)) s)
      ≡ not gone

-- An uninitialise was answered so: it ended as a call that needs no page, and answered that the shared map went exactly
-- where it went in this step.
pub record UninitializeEnds (old new : Standing) (file : File) (truncate : Option ℕ) (answer : Result Bool CcError) : Type 0 where
  pub ends : CallEnds flag_outcome old new (call.Uninitialise file truncate) answer
  pub closed : IfOk answer (λ gone. HasClosed old.number file.stream (call.Uninitialise file truncate) gone old.seen new.seen)
