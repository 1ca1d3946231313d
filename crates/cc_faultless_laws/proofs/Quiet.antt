-- Where no entry shows a failure, none tells a fault of a pass, so each call is answered by the table.
use Rattle.std.specs.Prelude.{◌≡◌, ◌==◌, ◌&&◌, ℕ, Bool, true, false, List, [], ◌∷◌, ◌++◌, refl, if◌then◌else◌}
use Rattle.std.specs.List.{list_any}
use Rattle.std.specs.declared.option.Option.TheVariants.{Some, None}
use Rattle.std.proofs.Common.{subst}
use Rattle.std.proofs.lemmas.Bool.{or_parts}
use Rattle.cc_entry.specs.declared.entry.End.{End}
use Rattle.cc_entry.specs.declared.entry.End.TheVariants as how
use Rattle.cc_entry.specs.declared.entry.Entry.{Entry}
use Rattle.cc_entry.specs.declared.entry.Entry.TheVariants as entry
use Rattle.cc_entry.specs.declared.reply.Outcome.{Outcome}
use Rattle.cc_entry.specs.declared.reply.Outcome.TheVariants as outcome
use Rattle.cc_model.specs.Faults.{Fault, fault_of, is_failed}
use Rattle.cc_model.specs.Good.{IsGood}
use Rattle.cc_model.specs.Legal.{IsLegal}
use Rattle.cc_model.specs.Setup.{Setup}
use Rattle.cc_effects.proofs.FrontLaws.{legal-tail}
use Rattle.cc_pieces.specs.Faultless.{shows_fault}
use Rattle.cc_refused_laws.specs.Changed.{TellsNoFault}
use Rattle.cc_refused_laws.proofs.Tabled.{outcome-here, tabled}
use Rattle.cc_faultless_laws.specs.Tabled.{AreByTable, is_faulted_outcome}

no-failed-end : (how : End) (b : Bool) (it : Fault) → is_failed how ≡ false → (if b && is_failed how then Some it else None) ≡ None
no-failed-end how.Good true it is = refl
no-failed-end how.Good false it is = refl
no-failed-end how.Failed b it is = absurd (cc is)
no-failed-end how.NoMemory true it is = refl
no-failed-end how.NoMemory false it is = refl

-- an entry that shows no failure tells no fault of its pass
not-told : (me : ℕ) (e : Entry) → shows_fault e ≡ false → fault_of me e ≡ None
not-told me (entry.FillFailed pass page) is = absurd (cc is)
not-told me (entry.WriteEnd pass page how) is = no-failed-end how (pass == me) _ is
not-told me (entry.Sync pass stream how) is = no-failed-end how (pass == me) _ is
not-told me (entry.LogFailed pass handle) is = absurd (cc is)
not-told me other is = refl

pub quiet : (past : List Entry) → list_any shows_fault past ≡ false → TellsNoFault past
quiet [] is = tt
quiet (e ∷ past) is =
    let parts = or_parts (shows_fault e) (list_any shows_fault past) is in
    ((λ me. not-told me e parts.0), quiet past parts.1)

pub by-table : (u : Setup) (past : List Entry) → IsLegal u past → list_any shows_fault past ≡ false → AreByTable u past
by-table u past legal none later front pass nth stream it answered split =
    record { no_fault = no answered split; defined = outcome-here u later front pass nth stream it answered (subst (λ (l : List Entry). IsLegal u l) split legal) }
  where
    no : (one : Outcome) → past ≡ later ++ entry.Call pass nth stream it one ∷ front → is_faulted_outcome one ≡ false
    no (outcome.Done r) at = refl
    no (outcome.Failed e) at = (tabled u past legal (quiet past none) later front pass nth stream it e at).0

none-tail : (later past : List Entry) → list_any shows_fault (later ++ past) ≡ false → list_any shows_fault past ≡ false
none-tail [] past is = is
none-tail (e ∷ later) past is = none-tail later past (or_parts (shows_fault e) (list_any shows_fault (later ++ past)) is).1

-- the same of what had happened as a call was answered
pub by-table-before : (u : Setup) (newer new : List Entry) → IsGood u (newer ++ new) → list_any shows_fault (newer ++ new) ≡ false → AreByTable u new
by-table-before u newer new good none = by-table u new (legal-tail u newer new good.legal) (none-tail newer new none)
