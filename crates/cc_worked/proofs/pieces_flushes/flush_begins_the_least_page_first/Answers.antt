-- Both pages by one call, in each order; and the begins of the line.
use Rattle.std.specs.Prelude.{◌≡◌, ◌^◌, true, false, [], ◌∷◌, refl}
use Rattle.std.specs.declared.option.Option.TheVariants.{Some}
use Rattle.std.proofs.Common.{arith}
use Rattle.cc_entry.specs.declared.reply.Reply.TheVariants as reply
use Rattle.cc_entry.specs.declared.error.CcError.TheVariants as error
use Rattle.cc_model.specs.Faults.{WriteFailed}
use Rattle.cc_effects.specs.Asked.{is_admitted}
use Rattle.cc_effects.specs.Begins.{AscendWithin}
use Rattle.cc_effects.specs.Moments.{own}
use Rattle.cc_effects.specs.PageWrites.{pages_begun}
use Rattle.cc_effects.proofs.Starts.{done_by, faulted_by}
use Rattle.cc_effects.proofs.Stretches.{some-begin}
use Rattle.cc_worked.specs.Values.{begins, ends, fails, synced}
use Rattle.cc_worked.specs.PiecesWrites.{both_dirty}
use Rattle.cc_worked.specs.PiecesFlushes.{whole_flush, lesser_by_another, greater_first, greater_then_fails}
use Rattle.cc_worked.proofs.PiecesOpened.{computed}
use Rattle.cc_worked.proofs.BeginOrders.{both-ascend, both-flushed, not-ascending}
use Rattle.cc_worked.proofs.pieces_flushes.flush_begins_the_least_page_first.Goals as goal

pub returns-clause-flushed : goal.returns-clause-flushed
returns-clause-flushed c = record { left = both-flushed; ascending = both-ascend }

pub returns-clause-beside : goal.returns-clause-beside
unfolding computed
returns-clause-beside c = record {
  left = done_by 1 3 (Some 0) whole_flush reply.Unit (synced 1 ∷ ends 2 0 ∷ begins 2 0 ∷ ends 1 1 ∷ begins 1 1 ∷ []) both_dirty (record { each = ((λ is. (refl, some-begin (λ moment. is_admitted whole_flush 0 moment ≡ true) (ends 2 0 ∷ begins 2 0 ∷ ends 1 1 ∷ begins 1 1 ∷ []) both_dirty refl)), ((λ is. absurd (cc)), ((λ is. absurd (cc)), ((λ is. refl), ((λ is. refl), tt))))); one_sync = omega arith; whole = refl }) refl refl (record { after = []; before = ends 2 0 ∷ begins 2 0 ∷ ends 1 1 ∷ begins 1 1 ∷ []; split = refl; quiet = tt; settled = refl });
  ascending = record { during = lesser_by_another; grew = refl; ascend = (omega arith, omega arith) };
}

pub returns-clause-of_its_call : goal.returns-clause-of_its_call
unfolding computed
returns-clause-of_its_call c =
    done_by 1 3 (Some 0) whole_flush reply.Unit (synced 1 ∷ ends 1 0 ∷ begins 1 0 ∷ ends 1 1 ∷ begins 1 1 ∷ []) both_dirty (record { each = ((λ is. (refl, some-begin (λ moment. is_admitted whole_flush 0 moment ≡ true) (ends 1 0 ∷ begins 1 0 ∷ ends 1 1 ∷ begins 1 1 ∷ []) both_dirty refl)), ((λ is. refl), ((λ is. refl), ((λ is. refl), ((λ is. refl), tt))))); one_sync = omega arith; whole = refl }) refl refl (record { after = []; before = ends 1 0 ∷ begins 1 0 ∷ ends 1 1 ∷ begins 1 1 ∷ []; split = refl; quiet = tt; settled = refl })

pub returns-clause-of_its_failed_call : goal.returns-clause-of_its_failed_call
unfolding computed
returns-clause-of_its_failed_call c =
    faulted_by 1 3 (Some 0) whole_flush (error.WriteFault 0) (fails 1 0) (begins 1 0 ∷ ends 1 1 ∷ begins 1 1 ∷ []) both_dirty (record { each = ((λ is. refl), ((λ is. refl), ((λ is. refl), ((λ is. refl), tt)))); one_sync = omega arith; whole = refl }) refl refl refl refl (record { fault = WriteFailed 0; shown = refl; told = refl })

pub returns-clause-not_of_the_line : goal.returns-clause-not_of_the_line
returns-clause-not_of_the_line c left = not-ascending greater_first both_dirty back left.ascending
  where
    back : AscendWithin 0 (2 ^ 51) (pages_begun (own 1 greater_first)) → ⊥
    back ascend = let less = ascend.1.0 in omega (arith, less)

pub returns-clause-not_where_it_failed : goal.returns-clause-not_where_it_failed
returns-clause-not_where_it_failed c left = not-ascending greater_then_fails both_dirty back left.ascending
  where
    back : AscendWithin 0 (2 ^ 51) (pages_begun (own 1 greater_then_fails)) → ⊥
    back ascend = let less = ascend.1.0 in omega (arith, less)
