-- The next step of a flush on its book, and its end, for whose entry a place is reserved.
use Rattle.std.specs.Prelude.{◌≡◌, ℕ, suc, ◌+◌, ◌-◌, ◌<◌, ◌≤◌, true, List, ◌∷◌, None, Some, refl}
use Rattle.std.specs.declared.option.Option.{Option}
use Rattle.std.proofs.Common.{ap, sym, ◌∙◌, subst, arith, inr}
use Rattle.cc_entry.specs.Place.{File, Range}
use Rattle.cc_entry.specs.declared.call.Call.{Call}
use Rattle.cc_entry.specs.declared.call.Call.TheVariants as call
use Rattle.cc_entry.specs.declared.entry.Entry.{Entry}
use Rattle.cc_entry.specs.declared.error.CcError.{CcError}
use Rattle.cc_entry.specs.declared.reply.Reply.TheVariants as reply
use Rattle.cc_book.specs.Book.{BookState, BookStands, Gains, GoesOn, MayDoOnBook, MayPlaceOnBook, done, failed}
use Rattle.cc_journal.specs.Calls.{owed_end}
use Rattle.cc_journal.specs.Journal.{JournalState}
use Rattle.cc_model.specs.Acts.{file_of}
use Rattle.cc_model.specs.Allowed.{IsAllowed, IsAllowedSoFar, IsOwed, owed_begin}
use Rattle.cc_model.specs.Covered.{IsCovered, IsCoveredEntry}
use Rattle.cc_model.specs.Filing.{IsFiled}
use Rattle.cc_model.specs.Flushed.{is_flushed}
use Rattle.cc_model.specs.Good.{IsGood}
use Rattle.cc_model.specs.History.{history}
use Rattle.cc_model.specs.Holds.{holds_of}
use Rattle.cc_model.specs.Legal.{IsLegal, IsLegalEntry}
use Rattle.cc_model.specs.Passes.{calls_of}
use Rattle.cc_model.specs.Refusals.{refusal}
use Rattle.cc_model.specs.Setup.{Setup}
use Rattle.cc_step.specs.Step.{StandUnder, MayStep, AttemptDone, AttemptRefused, FoundNone}
use Rattle.cc_step.proofs.Attempts.{reserving}
use Rattle.cc_step.proofs.Attempts.{forgoing, forgone-within}
use Rattle.cc_step.proofs.Ended.{refused-placed}
use Rattle.cc_step.proofs.Placed.{good-failed, so-far}
use Rattle.cc_step.proofs.Reserved.{reserved-done}
use Rattle.cc_ranges.specs.Dirty.{IsNext, IsCleanFrom}
use Rattle.cc_ranges.specs.FlushSteps.{FlushHasToWrite, HasToSync, FlushNextLeft, FlushGoneOn, FlushMayFinish, FlushFinishLeft, FlushHasEnded, without_one}
use Rattle.cc_ranges.specs.declared.flush_steps.FlushEnd.{FlushEnd}
use Rattle.cc_ranges.specs.declared.flush_steps.FlushEnd.TheVariants as finished
use Rattle.cc_ranges.specs.declared.flush_steps.FlushNext.{FlushNext}
use Rattle.cc_ranges.specs.declared.flush_steps.FlushNext.TheVariants as next
use Rattle.cc_ranges.proofs.Owing.{stamped-page}

-- where nothing is owed, any entry may follow
pub nothing_owed : (e : Entry) (past : List Entry) → owed_begin past ≡ None → IsOwed (owed_begin past) e
nothing_owed e past none = rw none tt

-- a good journal stays good with the entry of a flush that has synced
good-flushed : (u : Setup) (past : List Entry) (pass s : ℕ) (file : File) (span : Option Range) → IsGood u past → IsFiled (holds_of (history past s)) pass (Some s) (call.Flush file span) (file_of (call.Flush file span)) → refusal u past (history past s) (call.Flush file span) ≡ None → is_flushed past pass s span ≡ true → IsGood u (done pass past s (call.Flush file span) reply.Unit ∷ past)
unfolding IsLegal IsLegalEntry IsAllowed IsAllowedSoFar IsCovered IsCoveredEntry
good-flushed u past pass s file span good filed admitted flushed = record {
  legal = ((admitted, refl), good.legal);
  allowed = ((nothing_owed _ past good.allowed.1, record { number = refl; filed = filed; may_end = (tt, flushed) }, good.allowed.0), refl);
  covered = (tt, good.covered);
}

-- a place is given back and taken again, or taken and given back
pub less-more : (n : ℕ) → 0 < n → (n - 1) + 1 ≡ n
less-more n some = omega (arith, some)

pub more-less : (n : ℕ) → (n + 1) - 1 ≡ n
more-less n = omega arith

pub one_asked : 0 < 1
one_asked = omega arith

module _ {Q : Type 0} (u : Setup) (pass : ℕ) (file : File) (span : Option Range) (b : BookState) (j : JournalState Q)
    (may : MayStep u pass (call.Flush file span) b (without_one j)) (some : 0 < j.reserved) where
  abbrev it : Call
  it = call.Flush file span

  back : record (without_one j) { reserved = (j.reserved - 1) + 1 } ≡ j
  back = ap (λ (n : ℕ). record j { reserved = n }) (less-more j.reserved some)

  -- others have brought a refusal about
  pub may-fail : (e : CcError) → refusal u j.entries (history j.entries b.stream) it ≡ Some e → MayPlaceOnBook j.entries (failed pass j.entries b.stream it e) b
  may-fail e reason = (u, so-far u _ (good-failed u j.entries pass b.stream it e refl may.stand.good may.filed reason), may.stand.stands)

  pub refused-here : (e : CcError) (c : BookState) (k : JournalState Q) → refusal u j.entries (history j.entries b.stream) it ≡ Some e → Gains (failed pass j.entries b.stream it e) j k → GoesOn j.entries k.entries b c → c ≡ b → AttemptRefused u pass it e b c (without_one j) (forgoing j pass k)
  refused-here e c k reason gains goes same =
      refused-placed u pass it e b c (without_one j) k refl may reason
      (subst (λ (x : JournalState Q). Gains (failed pass x.entries b.stream it e) x k) (sym back) gains) goes same

  -- what the pass owed is still reserved
  forgone-left : (e : Entry) (k : JournalState Q) → Gains e j k → owed_end j.entries pass ≤ k.reserved
  forgone-left e k gains = within _ _ _ (forgone-within pass (without_one j) may.owed) (ap (λ (x : JournalState Q). x.reserved) gains)
    where
      within : (owed less now : ℕ) → owed ≤ less → now ≡ less → owed ≤ now
      within owed less now most same = omega (arith, most, same)

  pub refused-within : (e : CcError) (k : JournalState Q) → Gains (failed pass j.entries b.stream it e) j k → owed_end j.entries pass ≤ k.reserved
  refused-within e k gains = forgone-left (failed pass j.entries b.stream it e) k gains

  -- it found no memory, and the place was given back
  pub found-none : (k : JournalState Q) → k ≡ record j { reserved = j.reserved - 1 } → FoundNone u b b (without_one j) k
  found-none k released = record {
    same_journal = released;
    stand = subst (λ (x : JournalState Q). StandUnder u b x) (sym released) may.stand;
    stream = refl;
  }

  module _ (admitted : refusal u j.entries (history j.entries b.stream) it ≡ None) where
    pub to-write : (from page : ℕ) (k : JournalState Q) → IsNext (history j.entries b.stream) span from page → k ≡ record j { reserved = j.reserved - 1 } → FlushHasToWrite u file span from page b b (without_one j) k
    to-write from page k next released = record {
      admitted = admitted;
      next = next;
      stamped = stamped-page u j.entries (history j.entries b.stream) file span page admitted next.in_span;
      same_book = refl;
      same_journal = released;
    }

    pub to-sync : (from : ℕ) → IsCleanFrom (history j.entries b.stream) span from → HasToSync u file span from b b (without_one j) j
    to-sync from clean = record { admitted = admitted; clean = clean; same_book = refl; reserved = sym back }

    -- it has synced
    module _ (flushed : is_flushed j.entries pass b.stream span ≡ true) where
      good-here : IsGood u (done pass j.entries b.stream it reply.Unit ∷ j.entries)
      good-here = good-flushed u j.entries pass b.stream file span may.stand.good may.filed admitted flushed

      pub may-do : MayDoOnBook u j.entries pass it reply.Unit b
      may-do = record { good = so-far u _ good-here; stands = may.stand.stands }

      pub done-here : (c : BookState) (k : JournalState Q) → Gains (done pass j.entries b.stream it reply.Unit) j k → BookStands (u.opening b.stream) k.entries c → c.stream ≡ b.stream → AttemptDone u pass it reply.Unit b c (without_one j) (forgoing j pass k)
      done-here c k gains stands stream = record {
        placed = ap (λ (x : JournalState Q). forgoing j pass x) gains
            ∙ ap (λ (n : ℕ). record j { entries = done pass j.entries b.stream it reply.Unit ∷ j.entries; reserved = n; rows = k.rows })
            (owing _ _ _ _ may.owed (reserved-done j.entries pass (suc (calls_of j.entries pass)) b.stream it reply.Unit refl refl));
        stand = record {
          good = rw (ap (λ (x : JournalState Q). x.entries) gains) good-here;
          stands = subst (λ (n : ℕ). BookStands (u.opening n) k.entries c) (sym stream) stands;
          logs_are = may.stand.logs_are ∙ sym (ap (λ (x : JournalState Q). x.logs) gains);
          threshold_is = may.stand.threshold_is ∙ sym (ap (λ (x : JournalState Q). x.threshold) gains);
        };
        stream = stream;
      }
        where
          owing : (owed reserved before after : ℕ) → before ≤ reserved → owed + after ≡ before → reserved - owed ≡ after + (reserved - before)
          owing owed reserved before after within same = omega (arith, within, same)

      pub owed-within : (k : JournalState Q) → Gains (done pass j.entries b.stream it reply.Unit) j k → owed_end j.entries pass ≤ k.reserved
      owed-within k gains = forgone-left (done pass j.entries b.stream it reply.Unit) k gains

-- the same where the place was asked for
module _ {Q : Type 0} (u : Setup) (pass : ℕ) (file : File) (span : Option Range) (b c : BookState) (j k : JournalState Q) where
  again : without_one (reserving j) ≡ j
  again = ap (λ (n : ℕ). record j { reserved = n }) (more-less j.reserved)

  pub may-again : MayStep u pass (call.Flush file span) b j → MayStep u pass (call.Flush file span) b (without_one (reserving j))
  may-again may = subst (λ (x : JournalState Q). MayStep u pass (call.Flush file span) b x) (sym again) may

  pub finish-again : FlushMayFinish u pass file span b j → FlushMayFinish u pass file span b (without_one (reserving j))
  finish-again may = subst (λ (x : JournalState Q). FlushMayFinish u pass file span b x) (sym again) may

  pub next-left : (from : ℕ) (ended : FlushNext) → FlushGoneOn u pass file span from ended b c (reserving j) k → FlushNextLeft u pass file span from ended b c j k
  next-left from (next.Refused e) left = subst (λ (x : JournalState Q). FlushNextLeft u pass file span from (next.Refused e) b c x k) again left
  next-left from (next.Writes page) left = subst (λ (x : JournalState Q). FlushNextLeft u pass file span from (next.Writes page) b c x k) again left
  next-left from next.Syncs left = subst (λ (x : JournalState Q). FlushNextLeft u pass file span from next.Syncs b c x k) again left
  next-left from (next.Stopped e) left = (inr (left.0, one_asked), subst (λ (x : JournalState Q). FoundNone u b c x k) again left.1)

  pub finish-left : (ended : FlushEnd) → FlushHasEnded u pass file span ended b c (reserving j) k → FlushFinishLeft u pass file span ended b c j k
  finish-left finished.Done left = subst (λ (x : JournalState Q). FlushFinishLeft u pass file span finished.Done b c x k) again left
  finish-left (finished.Refused e) left = subst (λ (x : JournalState Q). FlushFinishLeft u pass file span (finished.Refused e) b c x k) again left
  finish-left (finished.Stopped e) left = (inr (left.0, one_asked), subst (λ (x : JournalState Q). FoundNone u b c x k) again left.1)
