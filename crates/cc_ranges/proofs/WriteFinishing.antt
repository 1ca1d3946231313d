-- The end of a noncached write on a book and a journal: its page goes out where it can, and its entry is placed.
use Rattle.std.specs.Prelude.{◌≡◌, ℕ, ◌+◌, ◌-◌, ◌<◌, Bool, true, List, [], ◌∷◌, ◌++◌, None, Some, refl}
use Rattle.std.specs.declared.option.Option.{Option}
use Rattle.std.specs.List.{list_any}
use Rattle.std.proofs.Common.{ap, sym, ◌∙◌, subst, arith}
use Rattle.std.proofs.lemmas.Bool.{eq-eqb}
use Rattle.cc_entry.specs.Place.{File, Page}
use Rattle.cc_entry.specs.declared.call.Call.{Call}
use Rattle.cc_entry.specs.declared.call.Call.TheVariants as call
use Rattle.cc_entry.specs.declared.entry.Entry.{Entry}
use Rattle.cc_entry.specs.declared.entry.Entry.TheVariants as entry
use Rattle.cc_entry.specs.declared.error.CcError.TheVariants as error
use Rattle.cc_entry.specs.declared.reply.Outcome.{Outcome}
use Rattle.cc_entry.specs.declared.reply.Outcome.TheVariants as outcome
use Rattle.cc_entry.specs.declared.reply.Reply.TheVariants as reply
use Rattle.cc_book.specs.Book.{BookState, BookStands, Gains, GoesOn, MayDoOnBook, MayPlaceOnBook, done, failed}
use Rattle.cc_effects.specs.Moments.{Others}
use Rattle.cc_journal.specs.Journal.{JournalState}
use Rattle.cc_laws.proofs.HistorySteps.{history-page_out}
use Rattle.cc_laws.proofs.FaultSteps.{store_of-not_mine}
use Rattle.cc_laws.proofs.ImageSteps.{open_of-went_out}
use Rattle.cc_laws.proofs.PassSteps.{faults_since-not_mine, is_written_since-not_mine, is_written_since-other, up_to_call-other}
use Rattle.cc_model.specs.Allowed.{IsAllowed, IsAllowedSoFar, IsOwed, owed_begin}
use Rattle.cc_model.specs.Conditions.{MayFinish, MayGoOut}
use Rattle.cc_model.specs.Covered.{IsCovered, IsCoveredEntry}
use Rattle.cc_model.specs.Faults.{faults_since, is_failed_write}
use Rattle.cc_model.specs.Good.{IsGood}
use Rattle.cc_model.specs.History.{history}
use Rattle.cc_model.specs.Images.{open_of}
use Rattle.cc_model.specs.Legal.{IsLegal, IsLegalEntry}
use Rattle.cc_model.specs.Passes.{store_of, stored_by, stored_page, is_store, is_the_page, is_written_since, up_to_call}
use Rattle.cc_model.specs.Setup.{Setup}
use Rattle.cc_journal.specs.Calls.{ends_in_store}
use Rattle.cc_step.proofs.Placed.{so-far}
use Rattle.cc_ranges.specs.Stores.{places_kept}
use Rattle.cc_ranges.specs.Ends.{MayFinishHere, IsTidied, WriteIsEnded, IsIdlePage, HasFailedSince, MayFailHere, write_done, write_failed}

nothing_owed : (e : Entry) (past : List Entry) → owed_begin past ≡ None → IsOwed (owed_begin past) e
nothing_owed e past none = rw none tt

-- a good journal stays good as the page goes out
pub good-out : (u : Setup) (past : List Entry) (pass : ℕ) (page : Page) → IsGood u past → MayGoOut (history past page.stream) page.page → IsGood u (entry.PageOut pass page ∷ past)
unfolding IsLegal IsLegalEntry IsAllowed IsAllowedSoFar IsCovered IsCoveredEntry
good-out u past pass page good may = record {
  legal = (tt, good.legal);
  allowed = ((nothing_owed _ past good.allowed.1, may, good.allowed.0), refl);
  covered = (tt, good.covered);
}

-- and with the end of the write
pub good-finished : (u : Setup) (past : List Entry) (pass : ℕ) (file : File) (page : Page) → IsGood u past → file.stream ≡ page.stream → MayFinish past pass page.stream page.page → IsGood u (write_done pass file page past ∷ past)
unfolding IsLegal IsLegalEntry IsAllowed IsAllowedSoFar IsCovered IsCoveredEntry
good-finished u past pass file page good here may = record {
  legal = ((tt, refl), good.legal);
  allowed = ((nothing_owed _ past good.allowed.1, record { number = refl; filed = ap Some (sym here); may_end = (tt, may) }, good.allowed.0), refl);
  covered = (tt, good.covered);
}

-- and where it tells that its transfer failed
pub good-unwritten : (u : Setup) (past : List Entry) (pass : ℕ) (file : File) (page : Page) → IsGood u past → file.stream ≡ page.stream → HasFailedSince past pass page → IsGood u (write_failed pass file page past ∷ past)
unfolding IsLegal IsLegalEntry IsAllowed IsAllowedSoFar IsCovered IsCoveredEntry
good-unwritten u past pass file page good here fails = record {
  legal = (rw (fails.failed, fails.stored) (refl, tt), good.legal);
  allowed = ((nothing_owed _ past good.allowed.1, record { number = refl; filed = ap Some (sym here); may_end = rw (fails.failed, fails.stored) (refl, tt) }, good.allowed.0), refl);
  covered = (tt, good.covered);
}

-- the page that a pass's last call stored is not changed by an entry that is no call
store-other : (e : Entry) (past : List Entry) (me : ℕ) → up_to_call (e ∷ past) me ≡ up_to_call past me → store_of (e ∷ past) me ≡ store_of past me
store-other e past me same = ap stored_by same

module _ {Q : Type 0} (u : Setup) (pass : ℕ) (file : File) (page : Page) (b : BookState) (j : JournalState Q)
    (inside : page.stream ≡ b.stream) (may : MayFinishHere u pass file page b j) where
  abbrev out : Entry
  out = entry.PageOut pass page

  module _ (idle : IsIdlePage (history j.entries page.stream) page.page) where
    good-gone : IsGood u (out ∷ j.entries)
    good-gone = good-out u j.entries pass page may.stand.good (record { resident = idle.resident; not_held = idle.not_held; clean = idle.clean; no_transfer = may.rest })

    pub may-go : MayPlaceOnBook j.entries out b
    may-go = (u, so-far u (out ∷ j.entries) good-gone, may.stand.stands)

    -- it went out, at a place that was kept or is reserved now
    pub gone : (kept : Bool) (c : BookState) (r k : JournalState Q) → places_kept kept < j.reserved → r ≡ record j { reserved = (j.reserved + 1) - places_kept kept } → Gains out r k → GoesOn j.entries k.entries b c → c.stream ≡ b.stream → IsTidied u pass file page kept c j k
    gone kept c r k spare there gains goes stream =
        let placed : k ≡ record j { entries = out ∷ j.entries; reserved = j.reserved - places_kept kept; rows = k.rows } =
        gains
        ∙ (ap (λ (y : JournalState Q). record y { entries = out ∷ y.entries; reserved = y.reserved - 1; rows = k.rows }) there
        ∙ ap (λ (n : ℕ). record j { entries = out ∷ j.entries; reserved = n; rows = k.rows }) (less j.reserved (places_kept kept))) in
        let entries : k.entries ≡ out ∷ j.entries = ap (λ x. x.entries) placed in
        record {
          tidied = out ∷ [];
          only = refl;
          out = λ kept_is idle_is. refl;
          placed = placed;
          may = record {
            stand = record {
              good = rw entries good-gone;
              stands = subst (λ (n : ℕ). BookStands (u.opening n) k.entries c) (sym stream) (goes (u.opening b.stream) may.stand.stands);
              logs_are = may.stand.logs_are ∙ sym (ap (λ x. x.logs) placed);
              threshold_is = may.stand.threshold_is ∙ sym (ap (λ x. x.threshold) placed);
            };
            here = may.here;
            rest = ap (λ past. open_of (history past page.stream)) entries
                ∙ (ap open_of (history-page_out pass page j.entries page.stream (eq-eqb page.stream page.stream refl))
                ∙ (open_of-went_out pass page.page (history j.entries page.stream) ∙ may.rest));
            finishes = record {
              stored = ap (λ past. is_the_page (record { stream = page.stream; page = page.page }) (store_of past pass)) entries
                  ∙ (ap (is_the_page (record { stream = page.stream; page = page.page })) (store-other out j.entries pass (up_to_call-other out j.entries pass refl)) ∙ may.finishes.stored);
              written = ap (λ past. is_written_since past pass (record { stream = page.stream; page = page.page })) entries
                  ∙ (is_written_since-other out j.entries pass (record { stream = page.stream; page = page.page }) refl refl ∙ may.finishes.written);
            };
            reserved = subst (λ (x : JournalState Q). 0 < x.reserved) (sym placed) (more j.reserved (places_kept kept) spare);
          };
        }
      where
        less : (n kept : ℕ) → (n + 1 - kept) - 1 ≡ n - kept
        less n kept = omega arith

        more : (n kept : ℕ) → kept < n → 0 < n - kept
        more n kept below = omega (arith, below)

  -- it stayed, for it was not idle, or there was no place
  pub stayed : (kept : Bool) (k : JournalState Q) → places_kept kept < j.reserved → k ≡ record j { reserved = j.reserved - places_kept kept } → (kept ≡ true → IsIdlePage (history j.entries page.stream) page.page → ⊥) → IsTidied u pass file page kept b j k
  stayed kept k spare same busy = record {
    tidied = [];
    only = tt;
    out = λ kept_is idle. absurd (busy kept_is idle);
    placed = same ∙ ap (λ (x : JournalState Q). record j { reserved = j.reserved - places_kept kept; rows = x.rows }) (sym same);
    may = subst (λ (x : JournalState Q). MayFinishHere u pass file page b x) (sym same) (record {
      stand = record { good = may.stand.good; stands = may.stand.stands; logs_are = may.stand.logs_are; threshold_is = may.stand.threshold_is };
      here = may.here;
      rest = may.rest;
      finishes = may.finishes;
      reserved = more j.reserved (places_kept kept) spare;
    });
  }
    where
      more : (n kept : ℕ) → kept < n → 0 < n - kept
      more n kept below = omega (arith, below)

  abbrev its : Call
  its = call.NcWrite file page.page

  good-here : IsGood u (write_done pass file page j.entries ∷ j.entries)
  good-here = good-finished u j.entries pass file page may.stand.good may.here may.finishes

  pub may-finish : MayDoOnBook u j.entries pass its reply.Unit b
  may-finish = record {
    good = so-far u (done pass j.entries b.stream its reply.Unit ∷ j.entries)
        (subst (λ (n : ℕ). IsGood u (done pass j.entries n its reply.Unit ∷ j.entries)) inside good-here);
    stands = may.stand.stands;
  }

-- the write was done
pub ended : {Q : Type 0} (u : Setup) (pass : ℕ) (file : File) (page : Page) (c d : BookState) (j k : JournalState Q) → page.stream ≡ c.stream → MayFinishHere u pass file page c j → Gains (done pass j.entries c.stream (call.NcWrite file page.page) reply.Unit) j k → BookStands (u.opening c.stream) k.entries d → d.stream ≡ c.stream → WriteIsEnded u pass file page d j k
ended {Q = Q} u pass file page c d j k inside may gains stands stream =
    let it = call.NcWrite file page.page in
    let there : k ≡ record j { entries = write_done pass file page j.entries ∷ j.entries; reserved = j.reserved - 1; rows = k.rows } =
    gains ∙ ap (λ (n : ℕ). record j { entries = done pass j.entries n it reply.Unit ∷ j.entries; reserved = j.reserved - 1; rows = k.rows }) (sym inside) in
    record {
      placed = there;
      stand = record {
        good = rw (ap (λ y. y.entries) there) (good-finished u j.entries pass file page may.stand.good may.here may.finishes);
        stands = subst (λ (n : ℕ). BookStands (u.opening n) k.entries d) (sym stream) stands;
        logs_are = may.stand.logs_are ∙ sym (ap (λ y. y.logs) there);
        threshold_is = may.stand.threshold_is ∙ sym (ap (λ y. y.threshold) there);
      };
    }

-- the pass whose last call stored a page owes the end of that write
pub stored-owes : (page : Page) (calls : List Entry) → is_the_page page (stored_by calls) ≡ true → ends_in_store calls ≡ true
stored-owes page [] is = absurd (cc)
stored-owes page (entry.Call pass nth stream it ended ∷ past) is = go stream it ended is
  where
    go : (stream : Option ℕ) (it : Call) (ended : Outcome) → is_the_page page (stored_page stream it ended) ≡ true → is_store it ended ≡ true
    go None it ended is = absurd (cc)
    go (Some s) (call.NcStore file number bytes) (outcome.Done r) is = refl
    go (Some s) (call.NcStore file number bytes) (outcome.Failed e) is = absurd (cc)
    go (Some s) other ended is = absurd (cc)
stored-owes page (other ∷ past) is = absurd (cc)

-- What a pass knows of its last call stays while others go on.
pub store-others : (me : ℕ) (later past : List Entry) → Others me later → store_of (later ++ past) me ≡ store_of past me
store-others me [] past others = refl
store-others me (e ∷ later) past others = store_of-not_mine e (later ++ past) me others.0 ∙ store-others me later past others.1

pub written-others : (me : ℕ) (page : Page) (later past : List Entry) → Others me later → is_written_since (later ++ past) me page ≡ is_written_since past me page
written-others me page [] past others = refl
written-others me page (e ∷ later) past others = is_written_since-not_mine e (later ++ past) me page others.0 ∙ written-others me page later past others.1

pub finish-others : (me s p : ℕ) (later past : List Entry) → Others me later → MayFinish past me s p → MayFinish (later ++ past) me s p
finish-others me s p later past others may = record {
  stored = ap (is_the_page (record { stream = s; page = p })) (store-others me later past others) ∙ may.stored;
  written = written-others me (record { stream = s; page = p }) later past others ∙ may.written;
}

pub faults-others : (me : ℕ) (later past : List Entry) → Others me later → faults_since (later ++ past) me ≡ faults_since past me
faults-others me [] past others = refl
faults-others me (e ∷ later) past others = faults_since-not_mine e (later ++ past) me others.0 ∙ faults-others me later past others.1

pub fails-others : (me : ℕ) (page : Page) (later past : List Entry) → Others me later → HasFailedSince past me page → HasFailedSince (later ++ past) me page
fails-others me page later past others fails = record {
  stored = ap (is_the_page page) (store-others me later past others) ∙ fails.stored;
  failed = ap (list_any (is_failed_write page.page)) (faults-others me later past others) ∙ fails.failed;
}

-- the entry of a write that failed may be placed
pub may-fail : {Q : Type 0} (u : Setup) (pass : ℕ) (file : File) (page : Page) (b : BookState) (j : JournalState Q) → page.stream ≡ b.stream → MayFailHere u pass file page b j → MayPlaceOnBook j.entries (failed pass j.entries b.stream (call.NcWrite file page.page) (error.WriteFault page.page)) b
may-fail u pass file page b j inside may = (
  u,
  so-far u (failed pass j.entries b.stream (call.NcWrite file page.page) (error.WriteFault page.page) ∷ j.entries)
      (subst (λ (n : ℕ). IsGood u (failed pass j.entries n (call.NcWrite file page.page) (error.WriteFault page.page) ∷ j.entries)) inside
      (good-unwritten u j.entries pass file page may.stand.good may.here may.fails)),
  may.stand.stands,
)
