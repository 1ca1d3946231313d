-- The block to give up is the first by last use.
use Rattle.std.specs.Prelude.{[], ◌∷◌, refl}
use Rattle.std.specs.declared.option.Option.TheVariants.{Some}
use Rattle.std.proofs.Common.{arith}
use Rattle.cc_entry.specs.declared.reply.Outcome.TheVariants as outcome
use Rattle.cc_effects.proofs.Starts.{done_by}
use Rattle.cc_effects.proofs.Licences.{licensed}
use Rattle.cc_worked.specs.Values.{setup, read_in, goes_out}
use Rattle.cc_worked.specs.PiecesReads.{a_byte}
use Rattle.cc_worked.specs.PiecesWrites.{two_of_three, third_block, first_goes}
use Rattle.cc_worked.proofs.PiecesOpened.{computed, neither, not_so}
use Rattle.cc_worked.proofs.pieces_writes.room_is_made.Goals as goal

pub returns-clause-done : goal.returns-clause-done
unfolding computed
returns-clause-done c =
    done_by 1 3 (Some 0) third_block a_byte (read_in 1 128 ∷ goes_out 1 64 ∷ []) two_of_three (record { each = ((λ is. refl), ((λ is. refl), tt)); one_sync = omega arith; whole = refl }) refl refl tt

pub returns-clause-not_the_other : goal.returns-clause-not_the_other
unfolding computed
returns-clause-not_the_other c left =
    neither (λ is. is) not_so ((licensed setup 1 third_block (outcome.Done a_byte) first_goes two_of_three left refl).1.1.0 refl)
