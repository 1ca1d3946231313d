-- What a call's entry says that met no fault: its reply, or its refusal by the table.
use Rattle.std.specs.Prelude.{◌≡◌, ℕ, Bool, false, Option, List, ◌∷◌, ◌++◌}
use Rattle.cc_entry.specs.declared.call.Call.{Call}
use Rattle.cc_entry.specs.declared.entry.Entry.{Entry}
use Rattle.cc_entry.specs.declared.entry.Entry.TheVariants as entry
use Rattle.cc_entry.specs.declared.reply.Outcome.{Outcome}
use Rattle.cc_entry.specs.declared.reply.Outcome.TheVariants as outcome
use Rattle.cc_model.specs.Allowed.{is_fault}
use Rattle.cc_model.specs.Legal.{IsOutcome}
use Rattle.cc_model.specs.Setup.{Setup}

-- whether an outcome tells that a disk or a log failed
abbrev pub is_faulted_outcome : Outcome → Bool
is_faulted_outcome (outcome.Done r) = false
is_faulted_outcome (outcome.Failed e) = is_fault e

-- A call has the outcome that the definitions give at the front of its entry, and that is no fault: its reply where nothing refuses
-- it, the first reason of the table that does, a full queue, or the shape of a noncached call.
pub record IsByTable (u : Setup) (front : List Entry) (pass : ℕ) (stream : Option ℕ) (it : Call) (answered : Outcome) : Type 0 where
  pub no_fault : is_faulted_outcome answered ≡ false
  pub defined : IsOutcome u front pass stream it answered

-- so it is of each call that has an entry in a journal
abbrev pub AreByTable : Setup → List Entry → Type 0
AreByTable u past =
    (later front : List Entry) (pass nth : ℕ) (stream : Option ℕ) (it : Call) (answered : Outcome) →
    past ≡ later ++ entry.Call pass nth stream it answered ∷ front → IsByTable u front pass stream it answered
