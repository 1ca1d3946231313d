-- Each page is written, and then goes out.
use Rattle.std.specs.Prelude.{[], ◌∷◌, refl}
use Rattle.std.specs.declared.option.Option.TheVariants.{Some}
use Rattle.std.proofs.Common.{arith, inl}
use Rattle.cc_entry.specs.declared.reply.Reply.TheVariants as reply
use Rattle.cc_entry.specs.declared.reply.Outcome.TheVariants as outcome
use Rattle.cc_entry.specs.declared.error.CcError.TheVariants as error
use Rattle.cc_effects.proofs.Starts.{begins, done_by, ends_refused}
use Rattle.cc_effects.proofs.Licences.{licensed}
use Rattle.cc_worked.specs.Values.{setup, begins as begun, ends, goes_out}
use Rattle.cc_worked.specs.PiecesWrites.{both_dirty, all_pages, second_is_mapped, refused_purge_writes, greatest_goes_first, out_before_all_written, first_alone, other_goes_out}
use Rattle.cc_worked.proofs.PiecesOpened.{computed, neither, not_so}
use Rattle.cc_worked.proofs.pieces_writes.purge_takes_its_span_out.Goals as goal

pub returns-clause-done : goal.returns-clause-done
unfolding computed
returns-clause-done c =
    done_by 1 3 (Some 0) all_pages reply.Unit (goes_out 1 1 ∷ goes_out 1 0 ∷ ends 1 1 ∷ begun 1 1 ∷ ends 1 0 ∷ begun 1 0 ∷ []) both_dirty (record { each = ((λ is. refl), ((λ is. refl), ((λ is. refl), ((λ is. refl), ((λ is. refl), ((λ is. refl), tt)))))); one_sync = omega arith; whole = refl }) refl refl tt

pub returns-clause-least_first : goal.returns-clause-least_first
unfolding computed
returns-clause-least_first c left =
    neither (λ is. is) not_so ((licensed setup 1 all_pages (outcome.Done reply.Unit) greatest_goes_first both_dirty left refl).1.1.0 refl)

pub returns-clause-written_before : goal.returns-clause-written_before
unfolding computed
returns-clause-written_before c left =
    neither (λ is. is) not_so ((licensed setup 1 all_pages (outcome.Done reply.Unit) out_before_all_written both_dirty left refl).1.1.1.1.0 refl)

pub returns-clause-no_other : goal.returns-clause-no_other
unfolding computed
returns-clause-no_other c left =
    neither (λ is. is) not_so ((licensed setup 1 first_alone (outcome.Done reply.Unit) other_goes_out both_dirty left refl).1.0 refl)

pub returns-clause-refused : goal.returns-clause-refused
unfolding computed
returns-clause-refused c = inl (ends_refused 1 4 (Some 0) all_pages (error.Held 1) second_is_mapped second_is_mapped (begins 1 all_pages second_is_mapped) refl refl)

-- the purge may begin no transfer where it is refused
pub returns-clause-none_refused : goal.returns-clause-none_refused
unfolding computed
returns-clause-none_refused c left =
    neither (λ is. is) not_so ((licensed setup 1 all_pages (outcome.Failed (error.Held 1)) refused_purge_writes second_is_mapped left refl).1.1.0 refl)
