-- Where no entry tells a fault of a pass, no call tells one, so each that was refused is refused by the table.
use Rattle.std.specs.Prelude.{◌≡◌, ℕ, Bool, true, false, List, [], ◌∷◌, ◌++◌, refl}
use Rattle.std.specs.List.{list_any}
use Rattle.std.specs.declared.option.Option.{Option}
use Rattle.std.proofs.Common.{ap, subst, ◌∙◌}
use Rattle.cc_entry.specs.declared.call.Call.{Call}
use Rattle.cc_entry.specs.declared.entry.Entry.{Entry}
use Rattle.cc_entry.specs.declared.entry.Entry.TheVariants as entry
use Rattle.cc_entry.specs.declared.error.CcError.{CcError}
use Rattle.cc_entry.specs.declared.error.CcError.TheVariants as error
use Rattle.cc_entry.specs.declared.reply.Outcome.{Outcome}
use Rattle.cc_entry.specs.declared.reply.Outcome.TheVariants as outcome
use Rattle.cc_model.specs.Allowed.{is_fault}
use Rattle.cc_model.specs.Faults.{Fault, faults_since, is_failed_log, is_failed_read, is_failed_sync, is_failed_write}
use Rattle.cc_model.specs.Legal.{IsFailure, IsLegal, IsLegalEntry, IsOutcome}
use Rattle.cc_model.specs.Passes.{ends_call_of}
use Rattle.cc_model.specs.Setup.{Setup}
use Rattle.cc_laws.proofs.PassSteps.{faults_since-ended, faults_since-none}
use Rattle.cc_refused_laws.specs.Changed.{TellsNoFault}

no-fault-before : (later past : List Entry) → TellsNoFault (later ++ past) → TellsNoFault past
no-fault-before [] past none = none
no-fault-before (e ∷ later) past none = no-fault-before later past none.1

no-faults : (past : List Entry) (me : ℕ) → TellsNoFault past → faults_since past me ≡ []
unfolding faults_since
no-faults [] me none = refl
no-faults (e ∷ past) me none = by (no-faults past me none.1) (ends_call_of me e) refl
  where
    by : faults_since past me ≡ [] → (b : Bool) → ends_call_of me e ≡ b → faults_since (e ∷ past) me ≡ []
    by before true is = faults_since-ended e past me is
    by before false is = faults_since-none e past me is (none.0 me) ∙ before

not-among : (test : Fault → Bool) (faults : List Fault) → faults ≡ [] → list_any test faults ≡ false
not-among test faults is = ap (λ (l : List Fault). list_any test l) is

not-told : (u : Setup) (front : List Entry) (pass : ℕ) (stream : Option ℕ) (it : Call) (e : CcError) → faults_since front pass ≡ [] → IsFailure u front pass stream it e → is_fault e ≡ false
not-told u front pass stream it (error.ReadFault page) none is = absurd (cc (not-among (is_failed_read page) _ none, is.0))
not-told u front pass stream it (error.WriteFault page) none is = absurd (cc (not-among (is_failed_write page) _ none, not-among is_failed_sync _ none, is.0))
not-told u front pass stream it (error.LogFault handle) none is = absurd (cc (not-among (is_failed_log handle) _ none, is.0))
not-told u front pass stream it other none is = refl

-- in a legal journal the outcome of a call is the one that its front defines
pub outcome-here : (u : Setup) (later front : List Entry) (pass nth : ℕ) (stream : Option ℕ) (it : Call) (answered : Outcome) → IsLegal u (later ++ entry.Call pass nth stream it answered ∷ front) → IsOutcome u front pass stream it answered
unfolding IsLegal IsLegalEntry
outcome-here u [] front pass nth stream it answered legal = legal.0
outcome-here u (e ∷ later) front pass nth stream it answered legal = outcome-here u later front pass nth stream it answered legal.1

pub tabled : (u : Setup) (past : List Entry) → IsLegal u past → TellsNoFault past → (later front : List Entry) (pass nth : ℕ) (stream : Option ℕ) (it : Call) (e : CcError) → past ≡ later ++ entry.Call pass nth stream it (outcome.Failed e) ∷ front → (is_fault e ≡ false) × IsFailure u front pass stream it e
tabled u past legal none later front pass nth stream it e split =
    let failure : IsFailure u front pass stream it e = outcome-here u later front pass nth stream it (outcome.Failed e) (subst (λ (l : List Entry). IsLegal u l) split legal) in
    let clear : TellsNoFault front = (no-fault-before later (entry.Call pass nth stream it (outcome.Failed e) ∷ front) (subst (λ (l : List Entry). TellsNoFault l) split none)).1 in
    (not-told u front pass stream it e (no-faults front pass clear) failure, failure)
