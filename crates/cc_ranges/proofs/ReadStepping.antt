-- The steps of a page of a noncached read on its book, for whose entry a place is reserved.
use Rattle.std.specs.Prelude.{◌≡◌, ℕ, suc, ◌+◌, ◌-◌, ◌*◌, ◌<◌, ◌≤◌, Bool, false, is_none, List, ◌∷◌, None, Some, refl}
use Rattle.std.proofs.Common.{ap, sym, ◌∙◌, subst, arith, inr}
use Rattle.std.proofs.lemmas.Bool.{or_right}
use Rattle.cc_entry.specs.Place.{File}
use Rattle.cc_entry.specs.declared.call.Call.{Call}
use Rattle.cc_entry.specs.declared.call.Call.TheVariants as call
use Rattle.cc_entry.specs.declared.entry.Entry.{Entry}
use Rattle.cc_entry.specs.declared.error.CcError.{CcError}
use Rattle.cc_entry.specs.declared.reply.Reply.{Reply}
use Rattle.cc_book.specs.Book.{BookState, BookStands, Gains, GoesOn, MayDoOnBook, MayPlaceOnBook, done, failed}
use Rattle.cc_effects.specs.Calls.{has_no_write}
use Rattle.cc_step.specs.Fill.{MayFill, book_page}
use Rattle.cc_ranges.proofs.FlushStepping.{nothing_owed}
use Rattle.cc_journal.specs.Calls.{owed_end}
use Rattle.cc_journal.specs.Journal.{JournalState}
use Rattle.cc_model.specs.Acts.{file_of}
use Rattle.cc_model.specs.Allowed.{IsAllowed, IsAllowedSoFar}
use Rattle.cc_model.specs.Conditions.{IsReady}
use Rattle.cc_model.specs.Covered.{IsCovered, IsCoveredEntry}
use Rattle.cc_model.specs.Filing.{IsFiled}
use Rattle.cc_model.specs.Good.{IsGood}
use Rattle.cc_model.specs.History.{history}
use Rattle.cc_model.specs.Holds.{holds_of}
use Rattle.cc_model.specs.Images.{open_of}
use Rattle.cc_model.specs.Legal.{IsLegal, IsLegalEntry}
use Rattle.cc_model.specs.Passes.{calls_of}
use Rattle.cc_model.specs.Refusals.{refusal}
use Rattle.cc_model.specs.Replies.{Reads}
use Rattle.cc_model.specs.Residency.{is_resident}
use Rattle.cc_model.specs.Setup.{Setup}
use Rattle.cc_model.specs.Touches.{size_of}
use Rattle.cc_step.specs.Step.{StandUnder, AttemptDone, AttemptRefused, FoundNone}
use Rattle.cc_step.proofs.Attempts.{reserving, forgoing, forgone-within}
use Rattle.cc_step.proofs.Ended.{refused-placed}
use Rattle.cc_step.proofs.Placed.{good-failed, so-far}
use Rattle.cc_step.proofs.Reserved.{reserved-done}
use Rattle.cc_ranges.specs.ReadSteps.{IsClean, ReadHasToWrite, ReadHasToRead, ReadNextLeft, ReadGoneOn, ReadAdmittedLeft}
use Rattle.cc_ranges.specs.declared.read_steps.ReadNext.{ReadNext}
use Rattle.cc_ranges.specs.declared.read_steps.ReadNext.TheVariants as next
use Rattle.cc_ranges.specs.FlushSteps.{without_one}

-- a good journal stays good with the entry of a read that answers what the page holds
good-read : (u : Setup) (past : List Entry) (pass s : ℕ) (file : File) (page : ℕ) (r : Reply) → IsGood u past → IsFiled (holds_of (history past s)) pass (Some s) (call.NcRead file page) (file_of (call.NcRead file page)) → refusal u past (history past s) (call.NcRead file page) ≡ None → IsReady past pass s (call.NcRead file page) → Reads (u.opening s) (history past s) (4096 * page) 4096 r → IsGood u (done pass past s (call.NcRead file page) r ∷ past)
unfolding IsLegal IsLegalEntry IsAllowed IsAllowedSoFar IsCovered IsCoveredEntry
good-read u past pass s file page r good filed admitted ready reads = record {
  legal = ((admitted, reads), good.legal);
  allowed = ((nothing_owed _ past good.allowed.1, record { number = refl; filed = filed; may_end = (tt, ready) }, good.allowed.0), refl);
  covered = (tt, good.covered);
}

-- where no transfer of the stream is under way, the disk may answer for the page
ready-read : (past : List Entry) (pass s : ℕ) (file : File) (page : ℕ) → open_of (history past s) ≡ None → IsReady past pass s (call.NcRead file page)
ready-read past pass s file page none = or_right (is_resident (history past s) page) (is_none (open_of (history past s))) (ap (λ o. is_none o) none)

less-more : (n : ℕ) → 0 < n → (n - 1) + 1 ≡ n
less-more n some = omega (arith, some)

more-less : (n : ℕ) → (n + 1) - 1 ≡ n
more-less n = omega arith

one_asked : 0 < 1
one_asked = omega arith

module _ {Q : Type 0} (u : Setup) (pass : ℕ) (file : File) (page : ℕ) (b : BookState) (j : JournalState Q)
    (fill : MayFill u pass (call.NcRead file page) b (without_one j)) (some : 0 < j.reserved) where
  abbrev it : Call
  it = call.NcRead file page

  back : record (without_one j) { reserved = (j.reserved - 1) + 1 } ≡ j
  back = ap (λ (n : ℕ). record j { reserved = n }) (less-more j.reserved some)

  -- it is refused
  pub may-fail : (e : CcError) → refusal u j.entries (history j.entries b.stream) it ≡ Some e → MayPlaceOnBook j.entries (failed pass j.entries b.stream it e) b
  may-fail e reason = (u, so-far u _ (good-failed u j.entries pass b.stream it e refl fill.may.stand.good fill.may.filed reason), fill.may.stand.stands)

  pub refused-here : (e : CcError) (c : BookState) (k : JournalState Q) → refusal u j.entries (history j.entries b.stream) it ≡ Some e → Gains (failed pass j.entries b.stream it e) j k → GoesOn j.entries k.entries b c → c ≡ b → AttemptRefused u pass it e b c (without_one j) (forgoing j pass k)
  refused-here e c k reason gains goes same =
      refused-placed u pass it e b c (without_one j) k refl fill.may reason
      (subst (λ (x : JournalState Q). Gains (failed pass x.entries b.stream it e) x k) (sym back) gains) goes same

  -- what the pass owed is still reserved
  pub forgone-left : (e : Entry) (k : JournalState Q) → Gains e j k → owed_end j.entries pass ≤ k.reserved
  forgone-left e k gains = within _ _ _ (forgone-within pass (without_one j) fill.may.owed) (ap (λ (x : JournalState Q). x.reserved) gains)
    where
      within : (owed less now : ℕ) → owed ≤ less → now ≡ less → owed ≤ now
      within owed less now most same = omega (arith, most, same)

  -- it found no memory, and the place was given back
  pub found-none : (k : JournalState Q) → k ≡ record j { reserved = j.reserved - 1 } → FoundNone u b b (without_one j) k
  found-none k released = record {
    same_journal = released;
    stand = subst (λ (x : JournalState Q). StandUnder u b x) (sym released) fill.may.stand;
    stream = refl;
  }

  module _ (admitted : refusal u j.entries (history j.entries b.stream) it ≡ None) where
    -- the page is to be written, or read
    pub to-write : (written : Bool) (k : JournalState Q) → written ≡ false → has_no_write (book_page b page) j.entries ≡ false → k ≡ record j { reserved = j.reserved - 1 } → ReadHasToWrite u file page written b b (without_one j) k
    to-write written k unwritten has released = record {
      admitted = admitted;
      unwritten = unwritten;
      has_write = has;
      same_book = refl;
      same_journal = released;
    }

    pub to-read : (written : Bool) → IsClean written b page j → 4096 * page < size_of (history j.entries b.stream) → ReadHasToRead u file page written b b (without_one j) j
    to-read written clean below = record { admitted = admitted; clean = clean; below = below; same_book = refl; reserved = sym back }

    -- it is done
    module _ (r : Reply) (reads : Reads (u.opening b.stream) (history j.entries b.stream) (4096 * page) 4096 r) where
      good-here : IsGood u (done pass j.entries b.stream it r ∷ j.entries)
      good-here = good-read u j.entries pass b.stream file page r fill.may.stand.good fill.may.filed admitted (ready-read j.entries pass b.stream file page fill.no_transfer) reads

      pub may-do : MayDoOnBook u j.entries pass it r b
      may-do = record { good = so-far u _ good-here; stands = fill.may.stand.stands }

      pub done-here : (c : BookState) (k : JournalState Q) → Gains (done pass j.entries b.stream it r) j k → BookStands (u.opening b.stream) k.entries c → c.stream ≡ b.stream → AttemptDone u pass it r b c (without_one j) (forgoing j pass k)
      done-here c k gains stands stream = record {
        placed = ap (λ (x : JournalState Q). forgoing j pass x) gains
            ∙ ap (λ (n : ℕ). record j { entries = done pass j.entries b.stream it r ∷ j.entries; reserved = n; rows = k.rows })
            (owing _ _ _ _ fill.may.owed (reserved-done j.entries pass (suc (calls_of j.entries pass)) b.stream it r refl refl));
        stand = record {
          good = rw (ap (λ (x : JournalState Q). x.entries) gains) good-here;
          stands = subst (λ (n : ℕ). BookStands (u.opening n) k.entries c) (sym stream) stands;
          logs_are = fill.may.stand.logs_are ∙ sym (ap (λ (x : JournalState Q). x.logs) gains);
          threshold_is = fill.may.stand.threshold_is ∙ sym (ap (λ (x : JournalState Q). x.threshold) gains);
        };
        stream = stream;
      }
        where
          owing : (owed reserved before after : ℕ) → before ≤ reserved → owed + after ≡ before → reserved - owed ≡ after + (reserved - before)
          owing owed reserved before after within same = omega (arith, within, same)

-- the same where the place was asked for
module _ {Q : Type 0} (u : Setup) (pass : ℕ) (file : File) (page : ℕ) (written : Bool) (b c : BookState) (j k : JournalState Q) where
  again : without_one (reserving j) ≡ j
  again = ap (λ (n : ℕ). record j { reserved = n }) (more-less j.reserved)

  pub may-again : MayFill u pass (call.NcRead file page) b j → MayFill u pass (call.NcRead file page) b (without_one (reserving j))
  may-again may = subst (λ (x : JournalState Q). MayFill u pass (call.NcRead file page) b x) (sym again) may

  pub next-left : (ended : ReadNext) → ReadGoneOn u pass file page written ended b c (reserving j) k → ReadNextLeft u pass file page written ended b c j k
  next-left next.Done left = subst (λ (x : JournalState Q). ReadNextLeft u pass file page written next.Done b c x k) again left
  next-left (next.Refused e) left = subst (λ (x : JournalState Q). ReadNextLeft u pass file page written (next.Refused e) b c x k) again left
  next-left next.Writes left = subst (λ (x : JournalState Q). ReadNextLeft u pass file page written next.Writes b c x k) again left
  next-left next.Reads left = subst (λ (x : JournalState Q). ReadNextLeft u pass file page written next.Reads b c x k) again left
  next-left (next.Stopped e) left = (inr (left.0, one_asked), subst (λ (x : JournalState Q). FoundNone u b c x k) again left.1)

  -- and where nothing refuses the read
  pub gone-on : (ended : ReadNext) → ReadAdmittedLeft u pass file page written ended b c j k → ReadGoneOn u pass file page written ended b c j k
  gone-on next.Done left = left
  gone-on (next.Refused e) left = absurd left
  gone-on next.Writes left = left
  gone-on next.Reads left = left
  gone-on (next.Stopped e) left = absurd left
