-- A noncached store of a book, and the begin of its transfer.
use Rattle.std.specs.Prelude.{◌≡◌, ℕ, List, ◌∷◌, refl}
use Rattle.std.proofs.Common.{ap, sym, subst, ◌∙◌}
use Rattle.cc_entry.specs.Place.{File, Page}
use Rattle.cc_entry.specs.declared.call.Call.TheVariants as call
use Rattle.cc_entry.specs.declared.entry.Entry.{Entry}
use Rattle.cc_entry.specs.declared.entry.Entry.TheVariants as entry
use Rattle.cc_entry.specs.declared.reply.Reply.TheVariants as reply
use Rattle.cc_images.specs.Images.{Images, ImagesStand}
use Rattle.cc_journal.specs.Journal.{JournalState}
use Rattle.cc_model.specs.Allowed.{IsAllowedSoFar}
use Rattle.cc_model.specs.Covered.{IsCovered}
use Rattle.cc_model.specs.Good.{IsGoodSoFar}
use Rattle.cc_model.specs.History.{Effect, history}
use Rattle.cc_model.specs.Legal.{IsLegal}
use Rattle.cc_model.specs.Setup.{Setup}
use Rattle.cc_book.specs.Book.{BookState, BookStands, Gains, MayDoOnBook, StandsAsBefore, done}
use Rattle.cc_book.specs.Stored.{MayStoreAndBegin, store_done}

-- a book whose images stand for the same histories
pub StandsAsBefore-images : (b : BookState) (images : Images) → ((h : List Effect) → ImagesStand h b.images → ImagesStand h images) → StandsAsBefore b (record b { images = images })
StandsAsBefore-images b images same = record {
  stream = refl;
  stands = λ past opening stands. record {
    state_is = stands.state_is;
    maps_are = stands.maps_are;
    holds_are = stands.holds_are;
    contents_are = stands.contents_are;
    images_are = same (history past b.stream) stands.images_are;
  };
}

-- a book that stands as another did that stands as a third did
pub StandsAsBefore-then : (b c d : BookState) → StandsAsBefore b c → StandsAsBefore c d → StandsAsBefore b d
StandsAsBefore-then b c d first second = record {
  stream = second.stream ∙ first.stream;
  stands = λ past opening stands. second.stands past opening (first.stands past opening stands);
}

-- a journal is good so far before the begin
before-begin : (u : Setup) (pass : ℕ) (page : Page) (past : List Entry) → IsGoodSoFar u (entry.WriteBegin pass page ∷ past) → IsGoodSoFar u past
unfolding IsLegal IsAllowedSoFar IsCovered
before-begin u pass page past good = record { legal = good.legal.1; allowed = good.allowed.2; covered = good.covered.1 }

-- the store may be done
pub may-store : (u : Setup) (past : List Entry) (pass : ℕ) (file : File) (page : Page) (number : ℕ) (bytes : List ℕ) (old mid : BookState) → StandsAsBefore old mid → page.stream ≡ old.stream → number ≡ page.page → MayStoreAndBegin u past pass file page bytes old → MayDoOnBook u past pass (call.NcStore file number bytes) reply.Unit mid
may-store u past pass file page number bytes old mid kept here same may = record {
  good = subst (λ (n : ℕ). IsGoodSoFar u (done pass past mid.stream (call.NcStore file n bytes) reply.Unit ∷ past)) (sym same)
      (subst (λ (s : ℕ). IsGoodSoFar u (done pass past s (call.NcStore file page.page bytes) reply.Unit ∷ past)) (here ∙ sym kept.stream)
      (before-begin u pass page (store_done pass past file page bytes ∷ past) may.good));
  stands = subst (λ (s : ℕ). BookStands (u.opening s) past mid) (sym kept.stream) (kept.stands past (u.opening old.stream) may.stands);
}

-- its entry
pub stored-entries : {Q : Type 0} (pass : ℕ) (file : File) (page : Page) (s number : ℕ) (bytes : List ℕ) (j k : JournalState Q) → Gains (done pass j.entries s (call.NcStore file number bytes) reply.Unit) j k → s ≡ page.stream → number ≡ page.page → k.entries ≡ store_done pass j.entries file page bytes ∷ j.entries
stored-entries pass file page s number bytes j k gains here same =
    ap (λ x. x.entries) gains
    ∙ (ap (λ (n : ℕ). done pass j.entries n (call.NcStore file number bytes) reply.Unit ∷ j.entries) here
    ∙ ap (λ (n : ℕ). done pass j.entries page.stream (call.NcStore file n bytes) reply.Unit ∷ j.entries) same)
