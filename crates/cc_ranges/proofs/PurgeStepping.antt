-- The next step of a purge on its book, for whose entry a place is reserved.
use Rattle.std.specs.Prelude.{◌≡◌, ℕ, suc, ◌+◌, ◌-◌, ◌<◌, ◌≤◌, ◌^◌, false, List, ◌∷◌, None, Some, refl}
use Rattle.std.specs.declared.option.Option.{Option}
use Rattle.std.specs.List.{list_any}
use Rattle.std.proofs.Common.{ap, sym, ◌∙◌, subst, arith, inr}
use Rattle.cc_entry.specs.Place.{File, Range}
use Rattle.cc_entry.specs.declared.call.Call.{Call}
use Rattle.cc_entry.specs.declared.call.Call.TheVariants as call
use Rattle.cc_entry.specs.declared.entry.Entry.{Entry}
use Rattle.cc_entry.specs.declared.entry.Entry.TheVariants as entry
use Rattle.cc_entry.specs.declared.error.CcError.{CcError}
use Rattle.cc_entry.specs.declared.reply.Reply.TheVariants as reply
use Rattle.cc_book.specs.Book.{BookState, BookStands, Gains, GoesOn, MayDoOnBook, MayPlaceOnBook, done, failed}
use Rattle.cc_step.specs.Fill.{MayFill, book_page}
use Rattle.cc_step.proofs.Admitted.{admitted as admitted-steps}
use Rattle.cc_step.proofs.Below.{resident-numbered}
use Rattle.cc_step.proofs.Owed.{unheld-stamped}
use Rattle.cc_step.proofs.PlacedPages.{good-out, stand-onto}
use Rattle.cc_journal.specs.Calls.{owed_end}
use Rattle.cc_journal.specs.Journal.{JournalState}
use Rattle.cc_model.specs.Acts.{file_of}
use Rattle.cc_model.specs.Allowed.{IsAllowed, IsAllowedSoFar}
use Rattle.cc_model.specs.Covered.{IsCovered, IsCoveredEntry}
use Rattle.cc_model.specs.Filing.{IsFiled}
use Rattle.cc_model.specs.Good.{IsGood}
use Rattle.cc_model.specs.History.{history}
use Rattle.cc_model.specs.Holds.{holds_of}
use Rattle.cc_model.specs.Legal.{IsLegal, IsLegalEntry}
use Rattle.cc_model.specs.Passes.{calls_of}
use Rattle.cc_model.specs.Ranges.{span_has}
use Rattle.cc_model.specs.Refusals.{refusal}
use Rattle.cc_model.specs.Residency.{residents}
use Rattle.cc_model.specs.Setup.{Setup}
use Rattle.cc_step.specs.Step.{StandUnder, AttemptDone, AttemptRefused, FoundNone}
use Rattle.cc_step.proofs.Attempts.{reserving, adds-reserving, forgoing, forgone-within}
use Rattle.cc_step.proofs.Ended.{refused-placed}
use Rattle.cc_step.proofs.Placed.{good-failed, so-far}
use Rattle.cc_step.proofs.Reserved.{reserved-done}
use Rattle.cc_ranges.specs.Dirty.{IsNext, IsCleanFrom}
use Rattle.cc_ranges.specs.FlushSteps.{without_one}
use Rattle.cc_ranges.specs.Residents.{IsLeastResident}
use Rattle.cc_ranges.specs.PurgeSteps.{PurgeHasToWrite, HasCleaned, HasTakenOut, PurgeNextLeft, PurgeGoneOn}
use Rattle.cc_ranges.specs.declared.purge_steps.PurgeNext.{PurgeNext}
use Rattle.cc_ranges.specs.declared.purge_steps.PurgeNext.TheVariants as next
use Rattle.cc_ranges.proofs.FlushStepping.{nothing_owed, less-more, more-less, one_asked}
use Rattle.cc_ranges.proofs.Unheld.{unheld}
use Rattle.cc_ranges.proofs.Emptying.{may-go, asked-out}

-- a good journal stays good with the entry of a purge of whose span no page is resident
good-purged : (u : Setup) (past : List Entry) (pass s : ℕ) (file : File) (span : Option Range) → IsGood u past → IsFiled (holds_of (history past s)) pass (Some s) (call.Purge file span) (file_of (call.Purge file span)) → refusal u past (history past s) (call.Purge file span) ≡ None → list_any (span_has span) (residents (history past s)) ≡ false → IsGood u (done pass past s (call.Purge file span) reply.Unit ∷ past)
unfolding IsLegal IsLegalEntry IsAllowed IsAllowedSoFar IsCovered IsCoveredEntry
good-purged u past pass s file span good filed admitted out = record {
  legal = ((admitted, refl), good.legal);
  allowed = ((nothing_owed _ past good.allowed.1, record { number = refl; filed = filed; may_end = (tt, out) }, good.allowed.0), refl);
  covered = (tt, good.covered);
}

inner : (a b : ℕ) → Some a ≡ Some b → a ≡ b
inner a b same = cc

module _ {Q : Type 0} (u : Setup) (pass : ℕ) (file : File) (span : Option Range) (b : BookState) (j : JournalState Q)
    (may : MayFill u pass (call.Purge file span) b (without_one j)) (some : 0 < j.reserved) where
  abbrev it : Call
  it = call.Purge file span

  back : record (without_one j) { reserved = (j.reserved - 1) + 1 } ≡ j
  back = ap (λ (n : ℕ). record j { reserved = n }) (less-more j.reserved some)

  -- a hold has a page of the span, or another refusal came about
  pub may-fail : (e : CcError) → refusal u j.entries (history j.entries b.stream) it ≡ Some e → MayPlaceOnBook j.entries (failed pass j.entries b.stream it e) b
  may-fail e reason = (u, so-far u _ (good-failed u j.entries pass b.stream it e refl may.may.stand.good may.may.filed reason), may.may.stand.stands)

  pub refused-here : (e : CcError) (c : BookState) (k : JournalState Q) → refusal u j.entries (history j.entries b.stream) it ≡ Some e → Gains (failed pass j.entries b.stream it e) j k → GoesOn j.entries k.entries b c → c ≡ b → AttemptRefused u pass it e b c (without_one j) (forgoing j pass k)
  refused-here e c k reason gains goes same =
      refused-placed u pass it e b c (without_one j) k refl may.may reason
      (subst (λ (x : JournalState Q). Gains (failed pass x.entries b.stream it e) x k) (sym back) gains) goes same

  -- what the pass owed is still reserved
  forgone-left : (e : Entry) (k : JournalState Q) → Gains e j k → owed_end j.entries pass ≤ k.reserved
  forgone-left e k gains = within _ _ _ (forgone-within pass (without_one j) may.may.owed) (ap (λ (x : JournalState Q). x.reserved) gains)
    where
      within : (owed less now : ℕ) → owed ≤ less → now ≡ less → owed ≤ now
      within owed less now most same = omega (arith, most, same)

  pub refused-within : (e : CcError) (k : JournalState Q) → Gains (failed pass j.entries b.stream it e) j k → owed_end j.entries pass ≤ k.reserved
  refused-within e k gains = forgone-left (failed pass j.entries b.stream it e) k gains

  -- it found no memory, and the place was given back
  pub found-none : (c : BookState) (k : JournalState Q) → k ≡ record j { reserved = j.reserved - 1 } → StandUnder u c (without_one j) → c.stream ≡ b.stream → FoundNone u b c (without_one j) k
  found-none c k released stand stream = record {
    same_journal = released;
    stand = subst (λ (x : JournalState Q). StandUnder u c x) (sym released) stand;
    stream = stream;
  }

  pub cleaned : (from : ℕ) (k : JournalState Q) → 0 < from → IsCleanFrom (history j.entries b.stream) span from → k ≡ record j { reserved = j.reserved - 1 } → HasCleaned span from b b (without_one j) k
  cleaned from k later clean released = record { later = later; clean = clean; same_book = refl; same_journal = released }

  module _ (admitted : refusal u j.entries (history j.entries b.stream) it ≡ None) where
    pub to-write : (from page : ℕ) (k : JournalState Q) → IsNext (history j.entries b.stream) span from page → k ≡ record j { reserved = j.reserved - 1 } → PurgeHasToWrite u file span from page b b (without_one j) k
    to-write from page k next released = record {
      admitted = admitted;
      next = next;
      stamped = unheld-stamped u j.entries b.stream page (so-far u j.entries may.may.stand.good)
          (unheld u j.entries (history j.entries b.stream) file span page admitted next.in_span);
      same_book = refl;
      same_journal = released;
    }

    -- the least resident page goes out
    module _ (page : ℕ) (clean : IsCleanFrom (history j.entries b.stream) span 0) (least : IsLeastResident (history j.entries b.stream) span page) where
      pub page-numbered : page < 2 ^ 51
      page-numbered = resident-numbered u j.entries b.stream page (so-far u j.entries may.may.stand.good) least.resident

      good-going : IsGood u (entry.PageOut pass (book_page b page) ∷ j.entries)
      good-going =
          good-out u j.entries pass b.stream page may.may.stand.good
          (may-go (history j.entries b.stream) span page clean least may.no_transfer (unheld u j.entries (history j.entries b.stream) file span page admitted least.in_span))

      pub may-take_out : MayPlaceOnBook j.entries (entry.PageOut pass (book_page b page)) b
      may-take_out = (u, so-far u _ good-going, may.may.stand.stands)

      pub taken-out : (c : BookState) (k : JournalState Q) → Gains (entry.PageOut pass (book_page b page)) j k → GoesOn j.entries k.entries b c → c.stream ≡ b.stream → HasTakenOut u pass file span b c (without_one j) k
      taken-out c k gains goes same =
          let adds = adds-reserving (entry.PageOut pass (book_page b page)) (without_one j) k (subst (λ (x : JournalState Q). Gains (entry.PageOut pass (book_page b page)) x k) (sym back) gains) in
          record {
            page = page;
            resident = least.resident;
            asked = asked-out j.entries pass b.stream file span page (admitted-steps u j.entries b.stream it admitted) (inner b.stream file.stream may.may.filed) clean least;
            placed = adds;
            stand = stand-onto u (entry.PageOut pass (book_page b page)) b c (without_one j) k may.may.stand good-going (ap (λ (x : JournalState Q). x.entries) adds) (ap (λ (x : JournalState Q). x.logs) adds) (ap (λ (x : JournalState Q). x.threshold) adds) same (goes (u.opening b.stream) may.may.stand.stands);
            stream = same;
          }

    -- no page of the span is resident
    module _ (out : list_any (span_has span) (residents (history j.entries b.stream)) ≡ false) where
      good-here : IsGood u (done pass j.entries b.stream it reply.Unit ∷ j.entries)
      good-here = good-purged u j.entries pass b.stream file span may.may.stand.good may.may.filed admitted out

      pub may-do : MayDoOnBook u j.entries pass it reply.Unit b
      may-do = record { good = so-far u _ good-here; stands = may.may.stand.stands }

      pub done-here : (c : BookState) (k : JournalState Q) → Gains (done pass j.entries b.stream it reply.Unit) j k → BookStands (u.opening b.stream) k.entries c → c.stream ≡ b.stream → AttemptDone u pass it reply.Unit b c (without_one j) (forgoing j pass k)
      done-here c k gains stands stream = record {
        placed = ap (λ (x : JournalState Q). forgoing j pass x) gains
            ∙ ap (λ (n : ℕ). record j { entries = done pass j.entries b.stream it reply.Unit ∷ j.entries; reserved = n; rows = k.rows })
            (owing _ _ _ _ may.may.owed (reserved-done j.entries pass (suc (calls_of j.entries pass)) b.stream it reply.Unit refl refl));
        stand = record {
          good = rw (ap (λ (x : JournalState Q). x.entries) gains) good-here;
          stands = subst (λ (n : ℕ). BookStands (u.opening n) k.entries c) (sym stream) stands;
          logs_are = may.may.stand.logs_are ∙ sym (ap (λ (x : JournalState Q). x.logs) gains);
          threshold_is = may.may.stand.threshold_is ∙ sym (ap (λ (x : JournalState Q). x.threshold) gains);
        };
        stream = stream;
      }
        where
          owing : (owed reserved before after : ℕ) → before ≤ reserved → owed + after ≡ before → reserved - owed ≡ after + (reserved - before)
          owing owed reserved before after within same = omega (arith, within, same)

      pub owed-within : (k : JournalState Q) → Gains (done pass j.entries b.stream it reply.Unit) j k → owed_end j.entries pass ≤ k.reserved
      owed-within k gains = forgone-left (done pass j.entries b.stream it reply.Unit) k gains

-- the same where the place was asked for
module _ {Q : Type 0} (u : Setup) (pass : ℕ) (file : File) (span : Option Range) (b c : BookState) (j k : JournalState Q) where
  again : without_one (reserving j) ≡ j
  again = ap (λ (n : ℕ). record j { reserved = n }) (more-less j.reserved)

  pub may-again : MayFill u pass (call.Purge file span) b j → MayFill u pass (call.Purge file span) b (without_one (reserving j))
  may-again may = subst (λ (x : JournalState Q). MayFill u pass (call.Purge file span) b x) (sym again) may

  pub next-left : (from : ℕ) (ended : PurgeNext) → PurgeGoneOn u pass file span from ended b c (reserving j) k → PurgeNextLeft u pass file span from ended b c j k
  next-left from next.Done left = subst (λ (x : JournalState Q). PurgeNextLeft u pass file span from next.Done b c x k) again left
  next-left from (next.Refused e) left = subst (λ (x : JournalState Q). PurgeNextLeft u pass file span from (next.Refused e) b c x k) again left
  next-left from (next.Writes page) left = subst (λ (x : JournalState Q). PurgeNextLeft u pass file span from (next.Writes page) b c x k) again left
  next-left from next.Cleaned left = subst (λ (x : JournalState Q). PurgeNextLeft u pass file span from next.Cleaned b c x k) again left
  next-left from next.WentOut left = subst (λ (x : JournalState Q). PurgeNextLeft u pass file span from next.WentOut b c x k) again left
  next-left from (next.Stopped e) left = (inr (left.0, one_asked), subst (λ (x : JournalState Q). FoundNone u b c x k) again left.1)
