-- What events of the World placed that were refused, faulted, or found no memory.
use Rattle.std.specs.Prelude.{◌≡◌, ℕ, Bool, true, false, nat_le, List, [], ◌∷◌, ◌++◌, refl, if◌then◌else◌}
use Rattle.std.specs.declared.option.Option.TheVariants.{Some, None}
use Rattle.std.proofs.Common.{sym, subst, inl, inr}
use Rattle.std.proofs.lemmas.Option.{same_Some}
use Rattle.cc_entry.specs.declared.call.Call.{Call}
use Rattle.cc_entry.specs.declared.call.Call.TheVariants as call
use Rattle.cc_entry.specs.declared.entry.Entry.{Entry}
use Rattle.cc_entry.specs.declared.entry.Entry.TheVariants as entry
use Rattle.cc_entry.specs.declared.error.CcError.{CcError}
use Rattle.cc_entry.specs.declared.error.CcError.TheVariants as error
use Rattle.cc_entry.specs.declared.reply.Outcome.TheVariants as outcome
use Rattle.cc_model.specs.Logs.{flushed_to}
use Rattle.cc_model.specs.Setup.{Setup}
use Rattle.cc_effects.specs.Events.{Answers, IsWanting, call_entry, faulted_by, read_fault}
use Rattle.cc_effects.specs.declared.events.Event.{Event}
use Rattle.cc_effects.specs.declared.events.Event.TheVariants as event
use Rattle.cc_effects.specs.declared.events.StepReply.TheVariants as step
use Rattle.cc_refused_laws.specs.Same.{ChangesNoFile, ChangesNothing}
use Rattle.cc_refused_laws.specs.Changed.{KeepsFiles}
use Rattle.cc_refused_laws.proofs.Entries.{is_no_change, keeps-files, keeps-refused}
use Rattle.cc_refused_laws.proofs.Steps.{nothing-refl}

none-added : (past added : List Entry) → added ≡ [] → ChangesNothing past (added ++ past)
none-added past added is = subst (λ (l : List Entry). ChangesNothing past (l ++ past)) (sym is) (nothing-refl past)

refused-added : (past added : List Entry) (pass : ℕ) (it : Call) (e : CcError) → added ≡ call_entry past pass it (outcome.Failed e) ∷ [] → ChangesNothing past (added ++ past)
refused-added past added pass it e is = subst (λ (l : List Entry). ChangesNothing past (l ++ past)) (sym is) (keeps-refused pass _ _ it e past)

pub refused-nothing : {Q : Type 0} (u : Setup) (past : List Entry) (it : Event Q) (e : CcError) (added : List Entry) → Answers u past it (step.Refused e) added → ChangesNothing past (added ++ past)
refused-nothing u past (event.Do pass it) e added is = refused-added past added pass it e is.1
refused-nothing u past (event.Fail pass it) e added is = refused-added past added pass it e is.0
refused-nothing u past (event.Append pass handle bytes) (error.NoLog n) added is = none-added past added is.2
refused-nothing u past (event.Append pass handle bytes) (error.LogFull n) added is = none-added past added is.3
refused-nothing u past (event.LogFlush pass handle to) (error.NoLog n) added is = none-added past added is.2
refused-nothing u past (event.Defer pass file bytes retrying routine) error.NotCached added is = none-added past added is.1
refused-nothing u past (event.Defer pass file bytes retrying routine) error.QueueFull added is = none-added past added is.2
refused-nothing u past it e added is = absurd is

-- ---- faults

told-keeps : (past : List Entry) (there e : Entry) → is_no_change there ≡ true → Some there ≡ Some e → KeepsFiles past e
told-keeps past there e kept is = subst (λ (x : Entry). KeepsFiles past x) (same_Some there e is) (keeps-files there past kept)

read-keeps : (past : List Entry) (pass : ℕ) (it : Call) (e : Entry) → read_fault pass it ≡ Some e → KeepsFiles past e
read-keeps past pass (call.NcRead file page) e is = told-keeps past _ e refl is
read-keeps past pass other e is = absurd (cc is)

pub faulted-keeps : {Q : Type 0} (past : List Entry) (it : Event Q) (e : Entry) → faulted_by past it ≡ Some e → KeepsFiles past e
faulted-keeps past (event.Fill pass page) e is = told-keeps past _ e refl is
faulted-keeps past (event.WriteEnd page) e is = told-keeps past _ e refl is
faulted-keeps past (event.Sync pass stream) e is = told-keeps past _ e refl is
faulted-keeps past (event.Do pass it) e is = read-keeps past pass it e is
faulted-keeps past (event.Append pass handle bytes) e is = told-keeps past _ e refl is
faulted-keeps past (event.LogFlush pass handle to) e is = by (nat_le to (flushed_to past handle)) is
  where
    by : (b : Bool) → (if b then None else Some (entry.LogFailed pass handle)) ≡ Some e → KeepsFiles past e
    by true is = absurd (cc is)
    by false is = told-keeps past _ e refl is
faulted-keeps past other e is = absurd (cc is)

-- ---- want of memory

one-added : (past added : List Entry) (e : Entry) → is_no_change e ≡ true → added ≡ e ∷ [] → ChangesNoFile past (added ++ past)
one-added past added e kept is = subst (λ (l : List Entry). ChangesNoFile past (l ++ past)) (sym is) (keeps-files e past kept)

pub wanting-keeps : {Q : Type 0} (past : List Entry) (it : Event Q) (added : List Entry) → IsWanting past it added → ChangesNoFile past (added ++ past)
wanting-keeps past (event.WriteEnd page) added is = one-added past added _ refl is
wanting-keeps past (event.Sync pass stream) added (inl is) = one-added past added _ refl is
wanting-keeps past (event.Sync pass stream) added (inr is) = (none-added past added is).no_file
wanting-keeps past other added is = (none-added past added is).no_file
