use Rattle.std.specs.Prelude.{◌≡◌, ◌⊎◌, ℕ, true, false, List, [], ◌∷◌}
use Rattle.std.specs.List.{AllByRecursion}
use Rattle.std.proofs.Common.{inl, inr, subst}
use Rattle.cc_entry.specs.declared.answer.Answer.{Answer}
use Rattle.cc_entry.specs.declared.answer.LineReply.{LineReply}
use Rattle.cc_entry.specs.declared.entry.Entry.{Entry}
use Rattle.cc_entry.specs.declared.place.Request.{Request}
use Rattle.cc_script.specs.declared.script.Action.{Action}
use Rattle.cc_script.specs.declared.script.ActionLine.{ActionLine}
use Rattle.cc_model.specs.Setup.{Setup}
use Rattle.cc_pieces.specs.Explained.{Answered, GivenToRun, IsExplained}
use Rattle.cc_pieces.specs.Runs.{asked_of}
use Rattle.cc_script_laws.specs.Lines.{IsUnwanting, checkpoints, left_to_updates, lines_answered}
use Rattle.cc_script_laws.specs.Told.{initialises}
use Rattle.cc_script_laws.proofs.Phases.{answers-are, both-of, stamped-phases, updates-checkpointed}
use Rattle.cc_script_laws.proofs.Rows.{rows-front}
use Rattle.cc_script_laws.proofs.RunWalks.{all-unit, asked-all}
use Rattle.cc_script_laws.proofs.Scripts.{begun-had, begun-keeps, begun-logged, updates-alone, updates-kept}
use Rattle.cc_script_laws.proofs.SmallStamps.{stamps-small}
use Rattle.cc_script_laws.proofs.Stamping.{StampedIf, given-invariant}
use Rattle.cc_script_laws.proofs.Unopening.{unopened-invariant, unopened-known-at}
use Rattle.cc_script_laws.proofs.laws.scripts_of_updates_keep_the_form.Goals as goal

-- what is known of each line with its answer
leaves-of : (u : Setup) (given : GivenToRun) (told : Answered) (taken : List Request) (past : List Entry) (is : IsExplained u given told taken past) (s log : ℕ) → AllByRecursion (λ (each : Action × Answer). left_to_updates s log each.0 each.1 ≡ true) (lines_answered given told) →
    AllByRecursion (λ (each : Action × Answer). left_to_updates s log each.0 each.1 ≡ true) (asked_of (λ line. true) given.lines is.answers)
leaves-of u given told taken past is s log leaves =
    subst (λ (replies : List LineReply). AllByRecursion (λ (each : Action × Answer). left_to_updates s log each.0 each.1 ≡ true) (asked_of (λ line. true) given.lines replies)) (answers-are u given told taken past is) leaves

-- with it, what is known of the line alone
facts-of : (s log : ℕ) (opened : Type 0) (lines : List ActionLine) (replies : List LineReply) → AllByRecursion (λ (each : Action × Answer). left_to_updates s log each.0 each.1 ≡ true) (asked_of (λ line. true) lines replies) →
    AllByRecursion (λ (each : ActionLine). checkpoints log each.action ≡ false) lines → AllByRecursion (λ (each : ActionLine). opened ⊎ (initialises s each.action ≡ false)) lines →
    AllByRecursion (λ (each : Action × Answer). (left_to_updates s log each.0 each.1 ≡ true) × (checkpoints log each.0 ≡ false) × (opened ⊎ (initialises s each.0 ≡ false))) (asked_of (λ line. true) lines replies)
facts-of s log opened lines replies leaves none opens =
    asked-all (λ (each : ActionLine). (checkpoints log each.action ≡ false) × (opened ⊎ (initialises s each.action ≡ false))) (λ (each : Action × Answer). left_to_updates s log each.0 each.1 ≡ true)
    (λ (each : Action × Answer). (left_to_updates s log each.0 each.1 ≡ true) × (checkpoints log each.0 ≡ false) × (opened ⊎ (initialises s each.0 ≡ false))) (λ line. true) (λ line told passes a b. (b, a.0, a.1)) lines replies
    (both-of _ _ lines none opens) leaves

-- where the stream is open, any line may initialise an object of it
may-open : (s : ℕ) (lines : List ActionLine) → AllByRecursion (λ (each : ActionLine). Unit {0} ⊎ (initialises s each.action ≡ false)) lines
may-open s [] = tt
may-open s (line ∷ lines) = (inl tt, may-open s lines)

-- else none does
none-opens : (s : ℕ) (lines : List ActionLine) → AllByRecursion (λ (each : ActionLine). initialises s each.action ≡ false) lines → AllByRecursion (λ (each : ActionLine). ⊥ ⊎ (initialises s each.action ≡ false)) lines
none-opens s [] none = tt
none-opens s (line ∷ lines) none = (inr none.0, none-opens s lines none.1)

pub returns-clause-updates : goal.returns-clause-updates
returns-clause-updates c = λ u given told taken past is good s log stream line at answered logged done leaves none.
    updates-alone u given told taken past is good s log stream line at answered logged done
    (facts-of s log (Unit {0}) given.lines is.answers (leaves-of u given told taken past is s log leaves) none (may-open s given.lines))

pub returns-clause-kept : goal.returns-clause-kept
returns-clause-kept c = λ u given told taken past is good s log stream at logged leaves none closed.
    updates-kept u given told taken past is good s log stream at logged
    (facts-of s log ⊥ given.lines is.answers (leaves-of u given told taken past is s log leaves) none (none-opens s given.lines closed))

pub returns-clause-unopened : goal.returns-clause-unopened
returns-clause-unopened c = λ u given told taken past is good s log stream at logged leaves apart closed never.
    updates-checkpointed u given told taken past is good s log ⊥ (λ open_it. absurd open_it) (inr never) (λ me. begun-keeps u given told taken past is good s log stream at logged me) (none-opens s given.lines closed)
    (leaves-of u given told taken past is s log leaves) apart (unopened-known-at u s log past good never given.lines) (λ asked told_it. Unit {0}) (all-unit _) (λ front. Unit {0})
    (λ front seen. rows-front u past log good (stamps-small u past good given told taken is s log (leaves-of u given told taken past is s log leaves)) seen.later front seen.grew)
    (λ me base end since to others. unopened-invariant u past good s log never me base end to others) (λ old new since to grown each held. tt) tt

pub returns-clause-checkpoints : goal.returns-clause-checkpoints
returns-clause-checkpoints c = λ u given told taken past is good s log stream line at answered logged done leaves apart unwanting known.
    stamped-phases u given told taken past is good s log
    (λ alone_keeps many_keep first_held.
    updates-checkpointed u given told taken past is good s log (Unit {0}) (λ was. begun-had u given told taken past is good s log stream line at answered logged done)
    (inl (begun-logged u given told taken past is good s log stream line at answered logged done)) (λ me. begun-keeps u given told taken past is good s log stream at logged me) (may-open s given.lines) (leaves-of u given told taken past is s log leaves) apart known (IsUnwanting s)
    (subst (λ (replies : List LineReply). AllByRecursion (λ each. IsUnwanting s each.0 each.1) (asked_of (λ line. true) given.lines replies)) (answers-are u given told taken past is) unwanting)
    (StampedIf s log) (λ front seen. rows-front u past log good (stamps-small u past good given told taken is s log (leaves-of u given told taken past is s log leaves)) seen.later front seen.grew) alone_keeps many_keep first_held)

pub returns-clause-set_dirty : goal.returns-clause-set_dirty
returns-clause-set_dirty c = λ u given told taken past is good s log stream line at answered logged done leaves apart stamped known.
    updates-checkpointed u given told taken past is good s log (Unit {0}) (λ was. begun-had u given told taken past is good s log stream line at answered logged done)
    (inl (begun-logged u given told taken past is good s log stream line at answered logged done)) (λ me. begun-keeps u given told taken past is good s log stream at logged me) (may-open s given.lines)
    (leaves-of u given told taken past is s log leaves) apart known (λ asked told_it. Unit {0}) (all-unit _) (λ front. Unit {0})
    (λ front seen. rows-front u past log good (stamps-small u past good given told taken is s log (leaves-of u given told taken past is s log leaves)) seen.later front seen.grew) (λ me base end since to others. given-invariant u past s log me base end to stamped) (λ old new since to grown each held. tt) tt
