-- The page comes in on the past; a wrong entry is neither the call's own nor one that it may place.
use Rattle.std.specs.Prelude.{true, [], ◌∷◌, ◌++◌, refl}
use Rattle.std.specs.declared.option.Option.TheVariants.{Some}
use Rattle.cc_entry.specs.declared.reply.Outcome.TheVariants as outcome
use Rattle.cc_effects.proofs.Starts.{begins, brings, ends_done}
use Rattle.cc_effects.proofs.CallSteps.{left-after}
use Rattle.cc_effects.proofs.Licences.{licensed, has-entry}
use Rattle.cc_worked.specs.Values.{setup, page, read_in}
use Rattle.cc_worked.specs.PiecesReads.{two_pages, first_byte, a_byte, page_comes_in, other_page_comes_in, no_waiting, comes_in_without_waiting, read_that_syncs, page_alone}
use Rattle.cc_worked.proofs.PiecesOpened.{computed, neither, not_so}
use Rattle.cc_worked.proofs.pieces_reads.read_brings_its_page_in.Goals as goal

pub returns-clause-done : goal.returns-clause-done
unfolding computed
returns-clause-done c =
    ends_done 1 1 (Some 0) first_byte a_byte two_pages (read_in 1 0 ∷ two_pages) (brings 1 first_byte two_pages two_pages (page 0) true (begins 1 first_byte two_pages) refl refl refl) refl (λ during. tt)

pub returns-clause-beside_another : goal.returns-clause-beside_another
returns-clause-beside_another c =
    left-after setup 1 first_byte (outcome.Done a_byte) two_pages (page_comes_in ++ two_pages) (read_in 2 1 ∷ (page_comes_in ++ two_pages)) (returns-clause-done c) (record { during = read_in 2 1 ∷ []; grew = refl; others = (refl, tt) })

pub returns-clause-not_another : goal.returns-clause-not_another
unfolding computed
returns-clause-not_another c left =
    neither (λ is. is) not_so ((licensed setup 1 first_byte (outcome.Done a_byte) other_page_comes_in two_pages left refl).1.0 refl)

pub returns-clause-not_unasked : goal.returns-clause-not_unasked
returns-clause-not_unasked c left =
    neither (λ is. is) not_so ((licensed setup 1 no_waiting (outcome.Done a_byte) comes_in_without_waiting two_pages left refl).1.0 refl)

pub returns-clause-no_sync : goal.returns-clause-no_sync
returns-clause-no_sync c left =
    neither (λ is. is) (λ may. not_so may.0) ((licensed setup 1 first_byte (outcome.Done a_byte) read_that_syncs two_pages left refl).1.0 refl)

pub returns-clause-not_without_entry : goal.returns-clause-not_without_entry
returns-clause-not_without_entry c left = not_so (has-entry setup 1 first_byte (outcome.Done a_byte) page_alone two_pages left refl)
