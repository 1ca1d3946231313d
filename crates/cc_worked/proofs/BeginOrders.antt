-- The begins of a stretch, which is one stretch alone; and what two pages that are flushed leave.
use Rattle.std.specs.Prelude.{◌≡◌, ℕ, ◌^◌, true, false, List, [], ◌∷◌, ◌++◌, refl}
use Rattle.std.specs.declared.option.Option.TheVariants.{Some}
use Rattle.std.proofs.Common.{arith, sym}
use Rattle.std.proofs.lemmas.List.{append_cancel_right}
use Rattle.cc_entry.specs.declared.reply.Reply.TheVariants as reply
use Rattle.cc_entry.specs.declared.reply.Outcome.TheVariants as outcome
use Rattle.cc_entry.specs.declared.entry.Entry.{Entry}
use Rattle.cc_effects.specs.Asked.{is_admitted}
use Rattle.cc_effects.specs.Begins.{AscendWithin, BeginsAscending}
use Rattle.cc_effects.specs.Calls.{CallLeft}
use Rattle.cc_effects.specs.Moments.{own}
use Rattle.cc_effects.specs.PageWrites.{pages_begun}
use Rattle.cc_effects.proofs.Starts.{done_by}
use Rattle.cc_effects.proofs.Stretches.{some-begin}
use Rattle.cc_worked.specs.Values.{setup, begins, ends, synced}
use Rattle.cc_worked.specs.PiecesWrites.{both_dirty}
use Rattle.cc_worked.specs.PiecesFlushes.{whole_flush, lesser_first}
use Rattle.cc_worked.proofs.PiecesOpened.{computed}

-- a stretch whose begins do not ascend is none in which they do
pub not-ascending : (piece past : List Entry) → (AscendWithin 0 (2 ^ 51) (pages_begun (own 1 piece)) → ⊥) → BeginsAscending 1 0 (2 ^ 51) past (piece ++ past) → ⊥
not-ascending piece past never begun =
    let during : piece ≡ begun.during = append_cancel_right piece begun.during past begun.grew in
    never (rw (sym during) at begun.ascend)

-- both pages are flushed, the lesser first
pub both-flushed : CallLeft setup 1 whole_flush (outcome.Done reply.Unit) both_dirty (lesser_first ++ both_dirty)
unfolding computed
both-flushed =
    done_by 1 3 (Some 0) whole_flush reply.Unit (synced 1 ∷ ends 1 1 ∷ begins 1 1 ∷ ends 1 0 ∷ begins 1 0 ∷ []) both_dirty (record { each = ((λ is. (refl, some-begin (λ moment. is_admitted whole_flush 0 moment ≡ true) (ends 1 1 ∷ begins 1 1 ∷ ends 1 0 ∷ begins 1 0 ∷ []) both_dirty refl)), ((λ is. refl), ((λ is. refl), ((λ is. refl), ((λ is. refl), tt))))); one_sync = omega arith; whole = refl }) refl refl (record { after = []; before = ends 1 1 ∷ begins 1 1 ∷ ends 1 0 ∷ begins 1 0 ∷ []; split = refl; quiet = tt; settled = refl })

pub both-ascend : BeginsAscending 1 0 (2 ^ 51) both_dirty (lesser_first ++ both_dirty)
both-ascend = record { during = lesser_first; grew = refl; ascend = (omega arith, (omega arith, omega arith)) }
