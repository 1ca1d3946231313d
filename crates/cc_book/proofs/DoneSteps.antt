-- What is known of a done call with which the journal is good, for the parts of a book.
use Rattle.std.specs.Prelude.{◌≡◌, ℕ, suc, ◌+◌, ◌<◌, ◌≤◌, ◌^◌, Bool, true, false, List, ◌∷◌, length, Option, None, Some, refl}
use Rattle.std.proofs.Common.{ap, sym, subst, ◌∙◌, arith}
use Rattle.cc_entry.specs.Place.{File}
use Rattle.cc_entry.specs.declared.place.FileSizes.{FileSizes}
use Rattle.cc_entry.specs.declared.call.Call.{Call}
use Rattle.cc_entry.specs.declared.call.Call.TheVariants as call
use Rattle.cc_entry.specs.declared.entry.Entry.{Entry}
use Rattle.cc_entry.specs.declared.reply.Reply.{Reply}
use Rattle.cc_model.specs.Allowed.{IsAllowedSoFar}
use Rattle.cc_model.specs.History.{Effect, Did, history}
use Rattle.cc_model.specs.Holds.{holds_of, id_of}
use Rattle.cc_model.specs.Passes.{calls_of}
use Rattle.cc_model.specs.Setup.{Setup}
use Rattle.cc_model.specs.Touches.{size_of, is_mapped}
use Rattle.cc_holds.specs.declared.holds.KeptHold.{KeptHold}
use Rattle.cc_holds.specs.Done.{MakesAbove, written_end}
use Rattle.cc_holds.specs.Makes.{zeroed_end}
use Rattle.cc_holds.specs.Stands.{HoldsStand}
use Rattle.cc_holds.proofs.RowsMade.{makes-above}
use Rattle.cc_stream.specs.Stream.{StreamStands}
use Rattle.cc_ahead.specs.Kept.{PrivateStands}
use Rattle.cc_content.specs.Contents.{Contents, ContentsStand}
use Rattle.cc_content.specs.Following.{MayFollowContents, IsFollowingContents, IsFollowingWrite, truncated_by}
use Rattle.cc_content.proofs.DoneFacts.{IsDone, IsDone-good, history-called, written-fits, zeroed-fits, map-resizes, map-writes, map-zeroes, map-stores, map-stamps, map-discards, map-looks}
use Rattle.cc_images.specs.Images.{ImagesStand}
use Rattle.cc_book.specs.Book.{BookState, BookStands, StandsFor, MayDoOnBook, IsDoing, done}

below : (n : ℕ) → n ≤ 2 ^ 63 → n < 2 ^ 64
below n within = omega arith

module _ (past : List Entry) (h : List Effect) (pass : ℕ) (reply : Reply) where
  -- what a call zeroes or writes ends below 2^64
  pub zeroed-below : (call : Call) → IsDone past h pass call reply → zeroed_end call < 2 ^ 64
  zeroed-below (call.PreparePin file at len true exclusive) done = less (at + len) (zeroed-fits past h pass (call.PreparePin file at len true exclusive) reply done refl)
    where
      less : (n : ℕ) → n < 2 ^ 63 → n < 2 ^ 64
      less n within = omega arith
  zeroed-below other done = omega arith

  pub written-below : (call : Call) → IsDone past h pass call reply → written_end call < 2 ^ 64
  written-below (call.PinnedWrite hold at bytes) done = below (at + length bytes) (written-fits past h pass (call.PinnedWrite hold at bytes) reply done refl)
  written-below other done = omega arith

  -- a call that is no initialise and no uninitialise neither makes a map nor lets one go
  pub mapped-kept : (it : Call) → IsDone past h pass it reply → ((file : File) (sizes : FileSizes) (quota : ℕ) (temporary : Bool) → it ≡ call.Initialise file sizes quota temporary → ⊥) → ((file : File) (truncate : Option ℕ) → it ≡ call.Uninitialise file truncate → ⊥) → is_mapped h ≡ is_mapped (Did pass it reply ∷ h)
  mapped-kept (call.Initialise file sizes quota temporary) done opens closes = absurd (opens file sizes quota temporary refl)
  mapped-kept (call.Uninitialise file truncate) done opens closes = absurd (closes file truncate refl)
  mapped-kept (call.CopyWrite file at bytes) done opens closes = sym (map-writes past h pass (call.CopyWrite file at bytes) reply done refl)
  mapped-kept (call.PinnedWrite hold at bytes) done opens closes = sym (map-writes past h pass (call.PinnedWrite hold at bytes) reply done refl)
  mapped-kept (call.MdlStore hold at bytes) done opens closes = sym (map-writes past h pass (call.MdlStore hold at bytes) reply done refl)
  mapped-kept (call.Zero file span) done opens closes = sym (map-zeroes past h pass (call.Zero file span) reply done refl)
  mapped-kept (call.PreparePin file at len true exclusive) done opens closes = sym (map-zeroes past h pass (call.PreparePin file at len true exclusive) reply done refl)
  mapped-kept (call.PreparePin file at len false exclusive) done opens closes = sym (map-looks past h pass (call.PreparePin file at len false exclusive) reply done refl)
  mapped-kept (call.NcStore file page bytes) done opens closes = sym (map-stores past h pass (call.NcStore file page bytes) reply done refl)
  mapped-kept (call.SetSizes file allocation size) done opens closes = sym (map-resizes past h pass (call.SetSizes file allocation size) reply done refl)
  mapped-kept (call.SetDirty hold lsn) done opens closes = sym (map-stamps past h pass (call.SetDirty hold lsn) reply done refl)
  mapped-kept (call.Discard file span) done opens closes = sym (map-discards past h pass (call.Discard file span) reply done refl)
  mapped-kept other done opens closes = sym (map-looks past h pass other reply done refl)

-- what is known of a done call that may be placed on the past
pub done-may : {u : Setup} {past : List Entry} {pass : ℕ} {call : Call} {reply : Reply} {b : BookState} → MayDoOnBook u past pass call reply b → IsDone past (history past b.stream) pass call reply
done-may {u} {past} {pass} {call} {reply} {b} may = IsDone-good u past pass (suc (calls_of past pass)) b.stream call reply may.good

-- a book that stands for the history with the call, and whose images followed, stands for the journal with it
pub stands-called : (opening : Option (ℕ → List ℕ)) (past : List Entry) (pass s : ℕ) (call : Call) (reply : Reply) (b new : BookState) → new ≡ record b { images = new.images } → b.stream ≡ s → StandsFor opening (Did pass call reply ∷ history past s) b → ImagesStand (Did pass call reply ∷ history past b.stream) new.images → BookStands opening (done pass past s call reply ∷ past) new
stands-called opening past pass s call reply b new same here stands images =
    let is = history-called past pass (suc (calls_of past pass)) s call reply in
    let images_here = subst (λ n. ImagesStand (Did pass call reply ∷ history past n) new.images) here images in
    subst (λ (x : BookState). BookStands opening (done pass past s call reply ∷ past) x) (sym same)
    (record {
      state_is = rw (here, is) stands.state_is;
      maps_are = rw (here, is) stands.maps_are;
      holds_are = rw (here, is) stands.holds_are;
      contents_are = rw (here, is) stands.contents_are;
      images_are = rw (here, is) images_here;
    })

-- an uninitialise is filed under the stream of its file
pub closes-here : {u : Setup} {past : List Entry} {pass : ℕ} {file : File} {truncate : Option ℕ} {reply : Reply} {b : BookState} → MayDoOnBook u past pass (call.Uninitialise file truncate) reply b → file.stream ≡ b.stream
unfolding IsAllowedSoFar
closes-here may = same (may.good.allowed.1.filed)
  where
    same : {s t : ℕ} → Some s ≡ Some t → t ≡ s
    same e = cc

-- A done call that a book follows, and the book's parts before it.
module _ {it : Call} {reply : Reply} {old : BookState} (b : BookState) (same : b ≡ old) where
  parted : (u : Setup) (past : List Entry) (pass : ℕ) → MayDoOnBook u past pass it reply old → MayDoOnBook u past pass it reply b
  parted u past pass may = subst (λ (x : BookState). MayDoOnBook u past pass it reply x) (sym same) may

  -- the contents may follow it
  pub may-follow : {mapped : Bool} (size : ℕ) (cut : Option ℕ) → ((h : List Effect) → StreamStands h b.state → size ≡ size_of h) → ((h : List Effect) → StreamStands h b.state → cut ≡ truncated_by h it) → (u : Setup) (past : List Entry) (pass : ℕ) → MayDoOnBook u past pass it reply old → mapped ≡ is_mapped (Did pass it reply ∷ history past old.stream) → MayFollowContents u past pass (suc (calls_of past pass)) b.stream it reply b.contents size cut mapped
  may-follow {mapped} size cut sized cuts u past pass given mapped_is =
      let may = parted u past pass given in
      record {
        good = may.good;
        stands = may.stands.contents_are;
        size_is = sized (history past b.stream) may.stands.state_is;
        truncation_is = cuts (history past b.stream) may.stands.state_is;
        mapped_is =
            subst (λ (x : BookState). mapped ≡ is_mapped (Did pass it reply ∷ history past x.stream)) (sym same) mapped_is
            ∙ sym (ap is_mapped (history-called past pass (suc (calls_of past pass)) b.stream it reply));
      }

  pub is-following : {mapped : Bool} (size : ℕ) (cut : Option ℕ) → ((h : List Effect) → StreamStands h b.state → size ≡ size_of h) → ((h : List Effect) → StreamStands h b.state → cut ≡ truncated_by h it) → IsDoing it reply mapped old → IsFollowingContents it reply b.contents size cut mapped
  is-following size cut sized cuts d =
      record { u = d.u; past = d.past; pass = d.pass; nth = suc (calls_of d.past d.pass); s = b.stream; may = may-follow size cut sized cuts d.u d.past d.pass d.may d.mapped_is }

  -- what it zeroes or writes through a hold ends below 2^64
  pub ends-below : {mapped : Bool} → IsDoing it reply mapped old → (zeroed_end it < 2 ^ 64) × (written_end it < 2 ^ 64)
  ends-below d =
      let may = parted d.u d.past d.pass d.may in
      (zeroed-below d.past (history d.past b.stream) d.pass reply it (done-may may), written-below d.past (history d.past b.stream) d.pass reply it (done-may may))

  -- the book stands for it where its holds and its contents do, and the rest was set
  pub stands-done : (new : BookState) (holds : List KeptHold) (contents : Contents) (was_mapped : Bool)
      → new ≡ record { stream = b.stream; state = new.state; maps = new.maps; holds = holds; contents = contents; images = b.images }
      → ((h : List Effect) (pass : ℕ) → StreamStands h b.state → was_mapped ≡ is_mapped h → StreamStands (Did pass it reply ∷ h) new.state)
      → ((h : List Effect) (pass : ℕ) → StreamStands h b.state → PrivateStands h b.maps → PrivateStands (Did pass it reply ∷ h) new.maps)
      → ((opening : Option (ℕ → List ℕ)) (h : List Effect) → ContentsStand opening h b.contents → was_mapped ≡ is_mapped h)
      → (u : Setup) (past : List Entry) (pass : ℕ) → MayDoOnBook u past pass it reply old
      → (MayDoOnBook u past pass it reply b → HoldsStand (history past b.stream) b.holds → HoldsStand (Did pass it reply ∷ history past b.stream) holds)
      → ContentsStand (u.opening b.stream) (history (done pass past b.stream it reply ∷ past) b.stream) contents
      → StandsFor (u.opening old.stream) (Did pass it reply ∷ history past old.stream) new
  stands-done new holds contents was_mapped is state maps was u past pass given held told =
      let may = parted u past pass given in
      let h = history past b.stream in
      let after = Did pass it reply ∷ h in
      let mapped_before = was (u.opening b.stream) h may.stands.contents_are in
      let here = subst (λ g. ContentsStand (u.opening b.stream) g contents) (history-called past pass (suc (calls_of past pass)) b.stream it reply) told in
      subst (λ (x : BookState). StandsFor (u.opening x.stream) (Did pass it reply ∷ history past x.stream) new) same
      (record {
        state_is = state h pass may.stands.state_is mapped_before;
        maps_are = maps h pass may.stands.state_is may.stands.maps_are;
        holds_are = subst (HoldsStand after) (sym (ap (λ (x : BookState). x.holds) is)) (held may may.stands.holds_are);
        contents_are = subst (ContentsStand (u.opening b.stream) after) (sym (ap (λ (x : BookState). x.contents) is)) here;
      })

  -- the holds that a call makes have greater ids than each open one
  pub made-above : (u : Setup) (past : List Entry) (pass id : ℕ) → MayDoOnBook u past pass it reply b → id ≡ id_of reply → MakesAbove it id (holds_of (history past b.stream))
  made-above u past pass id may is =
      subst (λ (n : ℕ). MakesAbove it n (holds_of (history past b.stream))) (sym is) (makes-above u past pass (suc (calls_of past pass)) b.stream it reply may.good.legal)

-- the contents may follow a pinned write
pub may-write : {u : Setup} {past : List Entry} {pass : ℕ} {hold at : ℕ} {bytes : List ℕ} {reply : Reply} {b : BookState} → MayDoOnBook u past pass (call.PinnedWrite hold at bytes) reply b → MayFollowContents u past pass (suc (calls_of past pass)) b.stream (call.PinnedWrite hold at bytes) reply b.contents (size_of (history past b.stream)) None (is_mapped (history (done pass past b.stream (call.PinnedWrite hold at bytes) reply ∷ past) b.stream))
may-write may = record { good = may.good; stands = may.stands.contents_are; size_is = refl; truncation_is = refl; mapped_is = refl }

-- a pinned write of these bytes may be followed
pub is-writing : {it : Call} {reply : Reply} {mapped : Bool} {old : BookState} (b : BookState) → b ≡ old → (hold at : ℕ) (bytes : List ℕ) → it ≡ call.PinnedWrite hold at bytes → IsDoing it reply mapped old → IsFollowingWrite at bytes b.contents
is-writing {it} {reply} {mapped} {old} b same hold at bytes is d =
    let may : MayDoOnBook d.u d.past d.pass it reply b = subst (λ (x : BookState). MayDoOnBook d.u d.past d.pass it reply x) (sym same) d.may in
    let writes : MayDoOnBook d.u d.past d.pass (call.PinnedWrite hold at bytes) reply b = subst (λ (k : Call). MayDoOnBook d.u d.past d.pass k reply b) is may in
    record {
      hold = hold;
      reply = reply;
      size = size_of (history d.past b.stream);
      truncation = None;
      mapped = is_mapped (history (done d.pass d.past b.stream (call.PinnedWrite hold at bytes) reply ∷ d.past) b.stream);
      following = record { u = d.u; past = d.past; pass = d.pass; nth = suc (calls_of d.past d.pass); s = b.stream; may = may-write writes };
    }
