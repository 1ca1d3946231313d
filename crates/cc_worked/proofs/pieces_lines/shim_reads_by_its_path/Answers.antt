-- The path's call, or the shim's own test.
use Rattle.std.specs.Prelude.{◌≡◌, ℕ, true, List, [], ◌∷◌, Result, Ok, Err, refl}
use Rattle.std.specs.declared.option.Option.TheVariants.{Some}
use Rattle.std.proofs.Common.{inl}
use Rattle.cc_entry.specs.declared.call.Call.TheVariants as call
use Rattle.cc_entry.specs.declared.error.CcError.{CcError}
use Rattle.cc_entry.specs.declared.error.CcError.TheVariants as error
use Rattle.cc_entry.specs.declared.reply.Outcome.TheVariants as outcome
use Rattle.cc_effects.proofs.Starts.{begins, brings, ends_done, ends_unread}
use Rattle.cc_effects.proofs.Stretches.{idle-none}
use Rattle.cc_effects.proofs.Licences.{has-entry}
use Rattle.cc_worked.specs.Values.{setup, a, page, answers, read_in}
use Rattle.cc_worked.specs.PiecesReads.{two_pages, first_resident, first_byte, no_waiting, a_byte}
use Rattle.cc_worked.proofs.PiecesOpened.{computed, neither, not_so}
use Rattle.cc_worked.proofs.Marks.{Ended, marked-call, shows}
use Rattle.cc_worked.proofs.pieces_lines.shim_reads_by_its_path.Goals as goal

pub returns-clause-cached : goal.returns-clause-cached
unfolding computed
returns-clause-cached c =
    ends_done 1 1 (Some 0) first_byte a_byte two_pages (read_in 1 0 ∷ two_pages) (brings 1 first_byte two_pages two_pages (page 0) true (begins 1 first_byte two_pages) refl refl refl) refl (λ during. tt)

pub returns-clause-too_long : goal.returns-clause-too_long
returns-clause-too_long c = (inl refl, idle-none 1 two_pages)

pub returns-clause-not_served : goal.returns-clause-not_served
returns-clause-not_served c left = neither (refused (error.TooLong 65536)) (refused error.NoMemory) left.0
  where
    refused : (e : CcError) → ◌≡◌ {A = Result (List ℕ) CcError} (Ok (90 ∷ [])) (Err e) → ⊥
    refused e same = absurd (cc)

pub returns-clause-fault : goal.returns-clause-fault
unfolding computed
returns-clause-fault c =
    ends_unread 1 1 (Some 0) first_byte (page 0) two_pages two_pages (begins 1 first_byte two_pages) refl refl refl refl refl

pub returns-clause-copy_too_long : goal.returns-clause-copy_too_long
returns-clause-copy_too_long c = (inl refl, idle-none 1 two_pages)

pub returns-clause-copied_longer : goal.returns-clause-copied_longer
returns-clause-copied_longer c left =
    not_so (has-entry setup 1 (call.CopyRead a 0 65537 true) (outcome.Failed (error.TooLong 65536)) [] two_pages left refl)

pub returns-clause-waits : goal.returns-clause-waits
returns-clause-waits c left =
    other (shows 1 (Ended first_byte (outcome.Done a_byte) ∷ []) (answers 1 1 no_waiting a_byte ∷ []) first_resident (marked-call setup 1 first_byte (outcome.Done a_byte) first_resident (answers 1 1 no_waiting a_byte ∷ first_resident) left refl))
  where
    other : Ended no_waiting (outcome.Done a_byte) ∷ [] ≡ Ended first_byte (outcome.Done a_byte) ∷ [] → ⊥
    other same = absurd (cc)
