-- A call for whose entry a place is reserved is refused, or gives the place back.
use Rattle.std.specs.Prelude.{◌≡◌, ℕ, ◌+◌, ◌-◌, ◌<◌, ◌≤◌, true, Some, refl}
use Rattle.std.proofs.Common.{ap, sym, subst, arith}
use Rattle.cc_entry.specs.declared.call.Call.{Call}
use Rattle.cc_entry.specs.declared.entry.Entry.{Entry}
use Rattle.cc_entry.specs.declared.error.CcError.{CcError}
use Rattle.cc_book.specs.Book.{BookState, Gains, GoesOn, MayPlaceOnBook, failed}
use Rattle.cc_step.specs.Fill.{MayFill}
use Rattle.cc_journal.specs.Calls.{owed_end}
use Rattle.cc_journal.specs.Journal.{JournalState}
use Rattle.cc_model.specs.History.{history}
use Rattle.cc_model.specs.Refusals.{refusal}
use Rattle.cc_model.specs.Setup.{Setup}
use Rattle.cc_step.specs.Step.{AttemptRefused, FoundNone, StandUnder, is_answered}
use Rattle.cc_step.proofs.Attempts.{forgoing, forgone-within, reserving}
use Rattle.cc_step.proofs.Ended.{refused-placed}
use Rattle.cc_step.proofs.Placed.{good-failed, so-far}
use Rattle.cc_ranges.specs.FlushSteps.{without_one}

less-more : (n : ℕ) → 0 < n → (n - 1) + 1 ≡ n
less-more n some = omega (arith, some)

more-less : (n : ℕ) → (n + 1) - 1 ≡ n
more-less n = omega arith

module _ {Q : Type 0} (u : Setup) (pass : ℕ) (it : Call) (b : BookState) (j : JournalState Q) (here : is_answered it ≡ true)
    (fill : MayFill u pass it b (without_one j)) (some : 0 < j.reserved) where
  back : record (without_one j) { reserved = (j.reserved - 1) + 1 } ≡ j
  back = ap (λ (n : ℕ). record j { reserved = n }) (less-more j.reserved some)

  pub may-fail : (e : CcError) → refusal u j.entries (history j.entries b.stream) it ≡ Some e → MayPlaceOnBook j.entries (failed pass j.entries b.stream it e) b
  may-fail e reason = (u, so-far u _ (good-failed u j.entries pass b.stream it e here fill.may.stand.good fill.may.filed reason), fill.may.stand.stands)

  pub refused-here : (e : CcError) (c : BookState) (k : JournalState Q) → refusal u j.entries (history j.entries b.stream) it ≡ Some e → Gains (failed pass j.entries b.stream it e) j k → GoesOn j.entries k.entries b c → c ≡ b → AttemptRefused u pass it e b c (without_one j) (forgoing j pass k)
  refused-here e c k reason gains goes same =
      refused-placed u pass it e b c (without_one j) k here fill.may reason
      (subst (λ (x : JournalState Q). Gains (failed pass x.entries b.stream it e) x k) (sym back) gains) goes same

  -- what the pass owed is still reserved
  pub forgone-left : (e : Entry) (k : JournalState Q) → Gains e j k → owed_end j.entries pass ≤ k.reserved
  forgone-left e k gains = within _ _ _ (forgone-within pass (without_one j) fill.may.owed) (ap (λ (x : JournalState Q). x.reserved) gains)
    where
      within : (owed less now : ℕ) → owed ≤ less → now ≡ less → owed ≤ now
      within owed less now most same = omega (arith, most, same)

  -- it found no memory, and the place was given back
  pub found-none : (k : JournalState Q) → k ≡ record j { reserved = j.reserved - 1 } → FoundNone u b b (without_one j) k
  found-none k released = record {
    same_journal = released;
    stand = subst (λ (x : JournalState Q). StandUnder u b x) (sym released) fill.may.stand;
    stream = refl;
  }

-- a place that was asked for is the one that is reserved
pub again : {Q : Type 0} (j : JournalState Q) → without_one (reserving j) ≡ j
again j = ap (λ (n : ℕ). record j { reserved = n }) (more-less j.reserved)
