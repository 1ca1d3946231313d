-- A book of which only which pages are owned changed, and what is owned before a done call.
use Rattle.std.specs.Prelude.{◌≡◌, ℕ, suc, ◌+◌, ◌*◌, ◌<◌, Bool, false, true, List, ◌∷◌, length, slice_index, Option, None, Some, IfSome, Result, Ok, Err, OnOk, OnErr, refl}
use Rattle.std.proofs.Common.{ap, sym, subst, ◌∙◌}
use Rattle.std.proofs.lemmas.Option.{same_Some}
use Rattle.cc_pages.specs.declared.frames.Frame.{Frame}
use Rattle.cc_entry.specs.Place.{Page}
use Rattle.cc_entry.specs.declared.call.Call.{Call}
use Rattle.cc_entry.specs.declared.call.Call.TheVariants as call
use Rattle.cc_entry.specs.declared.entry.Entry.{Entry}
use Rattle.cc_entry.specs.declared.entry.Entry.TheVariants as entry
use Rattle.cc_entry.specs.declared.reply.Reply.{Reply}
use Rattle.cc_model.specs.Allowed.{IsAllowedSoFar}
use Rattle.cc_model.specs.Good.{IsGoodSoFar}
use Rattle.cc_model.specs.History.{Effect, history}
use Rattle.cc_model.specs.Passes.{calls_of}
use Rattle.cc_model.specs.Residency.{is_resident}
use Rattle.cc_model.specs.Setup.{Setup}
use Rattle.cc_model.specs.Touches.{size_of, is_mapped}
use Rattle.cc_stream.specs.Stream.{StreamStands}
use Rattle.cc_content.specs.Contents.{Contents, ContentsStand, IsByteOfContents}
use Rattle.cc_content.specs.Following.{IsFollowable, truncated_by}
use Rattle.cc_content.specs.Owned.{OwnsChanged, changed_range, SameContents}
use Rattle.cc_book.specs.Book.{BookState, BookStands, StandsAsBefore, IsSnapshot, MayDoOnBook, IsDoing, OwnsFor, done, takes_memory}

-- contents that stand for the same histories
pub StandsAsBefore-contents : (b : BookState) (c : Contents) → SameContents b.contents c → StandsAsBefore b (record b { contents = c })
StandsAsBefore-contents b c same =
    record {
      stream = refl;
      stands = λ past opening stands. record {
        state_is = stands.state_is;
        maps_are = stands.maps_are;
        holds_are = stands.holds_are;
        contents_are = same.stands opening (history past b.stream) stands.contents_are;
        images_are = stands.images_are;
      };
    }

-- the same calls may be done
pub may-still : (old mid : BookState) → StandsAsBefore old mid → (u : Setup) (past : List Entry) (pass : ℕ) (it : Call) (answer : Reply) → MayDoOnBook u past pass it answer old → MayDoOnBook u past pass it answer mid
may-still old mid w u past pass it answer may =
    record {
      good = subst (λ s. IsGoodSoFar u (done pass past s it answer ∷ past)) (sym w.stream) may.good;
      stands = subst (λ s. BookStands (u.opening s) past mid) (sym w.stream) (w.stands past (u.opening old.stream) may.stands);
    }

-- What a done call finds owned, by the book's parts.
module _ {it : Call} {reply : Reply} {mapped : Bool} {old : BookState} (b : BookState) (same : b ≡ old) (cut : Option ℕ) (cuts : (h : List Effect) → StreamStands h b.state → cut ≡ truncated_by h it) (d : IsDoing it reply mapped old) where
  parted : MayDoOnBook d.u d.past d.pass it reply b
  parted = subst (λ (x : BookState). MayDoOnBook d.u d.past d.pass it reply x) (sym same) d.may

  pub followable : IsFollowable it cut b.contents
  followable =
      let may = parted in
      record {
        reply = reply;
        size = size_of (history d.past b.stream);
        mapped = is_mapped (history (done d.pass d.past b.stream it reply ∷ d.past) b.stream);
        following = record {
          u = d.u;
          past = d.past;
          pass = d.pass;
          nth = suc (calls_of d.past d.pass);
          s = b.stream;
          may = record { good = may.good; stands = may.stands.contents_are; size_is = refl; truncation_is = cuts (history d.past b.stream) may.stands.state_is; mapped_is = refl };
        };
      }

  pub owns-changed : OwnsFor old it → OwnsChanged b.contents it cut
  owns-changed own =
      let may = parted in
      let here : OwnsFor b it = subst (λ (x : BookState). OwnsFor x it) (sym same) own in
      subst (OwnsChanged b.contents it) (sym (cuts (history d.past b.stream) may.stands.state_is)) (here (history d.past b.stream) may.stands.state_is)

  -- a call for which no memory is wanting changes no page in place
  pub changes-none : takes_memory it ≡ false → changed_range it cut ≡ None
  changes-none sure =
      let may = parted in
      ap (changed_range it) (cuts (history d.past b.stream) may.stands.state_is) ∙ none it (history d.past b.stream) sure
    where
      none : (it : Call) (h : List Effect) → takes_memory it ≡ false → changed_range it (truncated_by h it) ≡ None
      none (call.CopyWrite file at bytes) h sure = absurd (cc)
      none (call.PinnedWrite hold at bytes) h sure = absurd (cc)
      none (call.MdlStore hold at bytes) h sure = absurd (cc)
      none (call.Zero file span) h sure = absurd (cc)
      none (call.PreparePin file at len zero exclusive) h sure = absurd (cc)
      none (call.SetSizes file allocation size) h sure = absurd (cc)
      none (call.Uninitialise file (Some size)) h sure = absurd (cc)
      none (call.Uninitialise file None) h sure = refl
      none other h sure = refl

-- what was owned for a call where it sets this size
pub OwnsFor-ok : {E : Type 0} (r : Result (Unit {0}) E) (it : Call) (b new : BookState) (cut : Option ℕ) → new.state ≡ b.state → ((h : List Effect) → StreamStands h b.state → cut ≡ truncated_by h it) → OnOk r (OwnsChanged new.contents it cut) → OnOk r (OwnsFor new it)
OwnsFor-ok (Ok x) it b new cut state cuts own = λ h stands. subst (OwnsChanged new.contents it) (cuts h (subst (StreamStands h) state stands)) own
OwnsFor-ok (Err e) it b new cut state cuts own = tt

-- what holds whatever the result is holds where it is an error
pub where_err : {T E : Type 0} (r : Result T E) (A : Type 0) → A → OnErr r A
where_err (Ok x) A a = tt
where_err (Err e) A a = a

-- a page whose transfer begins is resident
pub begun-resident : (u : Setup) (past : List Entry) (pass : ℕ) (page : Page) → IsGoodSoFar u (entry.WriteBegin pass page ∷ past) → is_resident (history past page.stream) page.page ≡ true
unfolding IsAllowedSoFar
begun-resident u past pass page good = let may = good.allowed.1 in may.resident

-- a snapshot of the contents is one of the book
pub IsSnapshot-of : (b : BookState) (page : ℕ) (made : Option Frame) (frame : Frame) → made ≡ Some frame
    → ((opening : Option (ℕ → List ℕ)) (h : List Effect) → ContentsStand opening h b.contents → IfSome made (λ bytes. (i : ℕ) → i < 4096 → IsByteOfContents opening h (4096 * page + i) (slice_index bytes i)))
    → IfSome made (λ bytes. length bytes ≡ 4096) → IsSnapshot b page frame
IsSnapshot-of b page None frame is bytes whole = absurd (cc)
IsSnapshot-of b page (Some other) frame is bytes whole =
    let same : other ≡ frame = same_Some other frame is in
    subst (λ (f : Frame). IsSnapshot b page f) same (record { whole = whole; bytes_are = λ opening past stands. bytes opening (history past b.stream) stands.contents_are })
