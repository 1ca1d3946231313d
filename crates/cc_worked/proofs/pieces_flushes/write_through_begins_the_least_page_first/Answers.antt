-- The end of the hold, and both pages by the flush of its range, in each order; and the begins of the line.
use Rattle.std.specs.Prelude.{◌≡◌, ◌^◌, true, false, List, [], ◌∷◌, ◌++◌, refl}
use Rattle.std.specs.declared.option.Option.TheVariants.{Some}
use Rattle.std.proofs.Common.{arith}
use Rattle.cc_entry.specs.declared.hold.HoldKind.TheVariants as kind
use Rattle.cc_entry.specs.declared.call.Call.TheVariants as call
use Rattle.cc_entry.specs.declared.reply.Reply.TheVariants as reply
use Rattle.cc_entry.specs.declared.entry.Entry.{Entry}
use Rattle.cc_model.specs.Holds.{Hold}
use Rattle.cc_effects.specs.Asked.{Calls, is_admitted}
use Rattle.cc_effects.specs.Begins.{AscendWithin}
use Rattle.cc_effects.specs.Moments.{own}
use Rattle.cc_effects.specs.PageWrites.{pages_begun}
use Rattle.cc_effects.specs.Repins.{IsHoldEnded}
use Rattle.cc_effects.proofs.Starts.{done_by}
use Rattle.cc_effects.proofs.Stretches.{some-begin}
use Rattle.cc_effects.proofs.WorkSteps.{works-others}
use Rattle.cc_worked.specs.Values.{a, done, begins, ends, synced}
use Rattle.cc_worked.specs.PiecesFlushes.{two_repinned, range_flush, lesser_through, greater_through}
use Rattle.cc_worked.proofs.PiecesOpened.{computed}
use Rattle.cc_worked.proofs.BeginOrders.{not-ascending}
use Rattle.cc_worked.proofs.pieces_flushes.write_through_begins_the_least_page_first.Goals as goal

repin : Hold
repin = record { id = 2; pass = 1; file = a; at = 0; len = 8192; kind = kind.Repin; exclusive = false; owed = [] }

hold_ended : List Entry
hold_ended = done 1 5 (call.EndHold 2) ∷ two_repinned

ended : IsHoldEnded 1 2 repin two_repinned hold_ended
unfolding computed repin hold_ended
ended = record {
  done = record {
    earlier = [];
    placed = record { nth = 5; stream = Some 0; later = []; grew = refl; quiet = tt; filed = refl; works = works-others 1 (Calls (call.EndHold 2)) [] two_repinned tt };
    unstopped = refl;
    has_done = tt;
  };
  found = refl;
}

pub returns-clause-flushed : goal.returns-clause-flushed
unfolding computed repin hold_ended
returns-clause-flushed c = record {
  left = (hold_ended, repin, ended, done_by 1 6 (Some 0) range_flush reply.Unit (synced 1 ∷ ends 1 1 ∷ begins 1 1 ∷ ends 1 0 ∷ begins 1 0 ∷ []) hold_ended (record { each = ((λ is. (refl, some-begin (λ moment. is_admitted range_flush 0 moment ≡ true) (ends 1 1 ∷ begins 1 1 ∷ ends 1 0 ∷ begins 1 0 ∷ []) hold_ended refl)), ((λ is. refl), ((λ is. refl), ((λ is. refl), ((λ is. refl), tt))))); one_sync = omega arith; whole = refl }) refl refl (record { after = []; before = ends 1 1 ∷ begins 1 1 ∷ ends 1 0 ∷ begins 1 0 ∷ []; split = refl; quiet = tt; settled = refl }));
  ascending = record { during = lesser_through; grew = refl; ascend = (omega arith, (omega arith, omega arith)) };
}

pub returns-clause-of_its_calls : goal.returns-clause-of_its_calls
unfolding computed repin hold_ended
returns-clause-of_its_calls c =
    (hold_ended, repin, ended, done_by 1 6 (Some 0) range_flush reply.Unit (synced 1 ∷ ends 1 0 ∷ begins 1 0 ∷ ends 1 1 ∷ begins 1 1 ∷ []) hold_ended (record { each = ((λ is. (refl, some-begin (λ moment. is_admitted range_flush 0 moment ≡ true) (ends 1 0 ∷ begins 1 0 ∷ ends 1 1 ∷ begins 1 1 ∷ []) hold_ended refl)), ((λ is. refl), ((λ is. refl), ((λ is. refl), ((λ is. refl), tt))))); one_sync = omega arith; whole = refl }) refl refl (record { after = []; before = ends 1 0 ∷ begins 1 0 ∷ ends 1 1 ∷ begins 1 1 ∷ []; split = refl; quiet = tt; settled = refl }))

pub returns-clause-not_of_the_line : goal.returns-clause-not_of_the_line
returns-clause-not_of_the_line c left = not-ascending greater_through two_repinned back left.ascending
  where
    back : AscendWithin 0 (2 ^ 51) (pages_begun (own 1 greater_through)) → ⊥
    back ascend = let less = ascend.1.0 in omega (arith, less)
