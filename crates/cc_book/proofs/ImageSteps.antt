-- How the images of a book follow a done call.
use Rattle.std.specs.Prelude.{◌≡◌, ℕ, suc, ◌*◌, ◌≤◌, Bool, List, ◌∷◌, Option, None, Some, refl}
use Rattle.std.proofs.Common.{ap, sym, subst, ◌∙◌}
use Rattle.std.proofs.lemmas.Option.{same_Some}
use Rattle.cc_entry.specs.Place.{File}
use Rattle.cc_entry.specs.declared.place.FileSizes.{FileSizes}
use Rattle.cc_entry.specs.declared.call.Call.{Call}
use Rattle.cc_entry.specs.declared.call.Call.TheVariants as call
use Rattle.cc_entry.specs.declared.entry.Entry.{Entry}
use Rattle.cc_entry.specs.declared.reply.Reply.{Reply}
use Rattle.cc_images.specs.Following.{MayOpen}
use Rattle.cc_images.specs.Images.{Images, ImagesStand}
use Rattle.cc_laws.proofs.SizeSteps.{sizes-opens_anew}
use Rattle.cc_model.specs.History.{Did, history}
use Rattle.cc_model.specs.Passes.{calls_of}
use Rattle.cc_model.specs.Good.{IsGoodSoFar}
use Rattle.cc_model.specs.Setup.{Setup}
use Rattle.cc_model.specs.Touches.{valid_of}
use Rattle.cc_book.specs.Book.{BookState, StandsFor, MayDoOnBook, IsMapRoomFor, ImagesMayFollow, done}

-- they may follow it where the rest of the book has
pub images-may : (u : Setup) (past : List Entry) (pass : ℕ) (it : Call) (reply : Reply) (room : Option ℕ) (was : ℕ) (old b : BookState) → MayDoOnBook u past pass it reply old → b.stream ≡ old.stream → b.images ≡ old.images → StandsFor (u.opening old.stream) (Did pass it reply ∷ history past old.stream) b → IsMapRoomFor (history past old.stream) it room → was ≡ valid_of (history past old.stream) → ImagesMayFollow u past pass it reply room was b
images-may u past pass it reply room was old b may stream images stands room_is was_is =
    let back = sym stream in
    record {
      good = subst (λ s. IsGoodSoFar u (done pass past s it reply ∷ past)) back may.good;
      stands = subst (λ s. ImagesStand (history past s) b.images) back (subst (λ i. ImagesStand (history past old.stream) i) (sym images) may.stands.images_are);
      room_is = subst (λ s. IsMapRoomFor (history past s) it room) back room_is;
      was_is = subst (λ s. was ≡ valid_of (history past s)) back was_is;
      now_is = subst (λ s. b.contents.valid ≡ valid_of (Did pass it reply ∷ history past s)) back stands.contents_are.valid_is;
    }

-- where there is room, the call makes the map
pub images-opened : (u : Setup) (past : List Entry) (pass : ℕ) (it : Call) (reply : Reply) (room : Option ℕ) (pages was : ℕ) (b : BookState) (new : Images) → room ≡ Some pages → ImagesMayFollow u past pass it reply room was b
    → ((u : Setup) (past : List Entry) (pass nth s : ℕ) (file : File) (sizes : FileSizes) (quota : ℕ) (temporary : Bool) (reply : Reply) → MayOpen u past pass nth s file sizes quota temporary reply b.images → sizes.valid ≡ b.contents.valid → 64 * quota ≤ pages → ImagesStand (Did pass (call.Initialise file sizes quota temporary) reply ∷ history past s) new)
    → ImagesStand (Did pass it reply ∷ history past b.stream) new
images-opened u past pass (call.Initialise file sizes quota temporary) reply (Some room) pages was b new is may opened =
    let same = same_Some room pages is in
    let it = call.Initialise file sizes quota temporary in
    opened u past pass (suc (calls_of past pass)) b.stream file sizes quota temporary reply
    (record { good = may.good; stands = may.stands; unmapped = may.room_is.0 })
    (sym (may.now_is ∙ ap (λ s. s.valid) (sizes-opens_anew pass it reply (history past b.stream) refl may.room_is.0)))
    (subst (λ (n : ℕ). 64 * quota ≤ n) same may.room_is.1)
images-opened u past pass it reply None pages was b new is may opened = absurd (cc)
images-opened u past pass other reply (Some room) pages was b new is may opened = absurd may.room_is
