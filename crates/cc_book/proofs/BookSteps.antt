-- How a book goes on, by the kind of entry.
use Rattle.std.specs.Prelude.{◌≡◌, ℕ, Bool, false, List, ◌∷◌, Option, None, Some, refl}
use Rattle.std.proofs.Common.{ap, sym, subst, ◌∙◌}
use Rattle.std.proofs.lemmas.Bool.{eq-eqb}
use Rattle.cc_entry.specs.Place.{Page}
use Rattle.cc_entry.specs.declared.call.Call.{Call}
use Rattle.cc_entry.specs.declared.entry.End.{End}
use Rattle.cc_entry.specs.declared.entry.Entry.{Entry}
use Rattle.cc_entry.specs.declared.entry.Entry.TheVariants as entry
use Rattle.cc_entry.specs.declared.error.CcError.{CcError}
use Rattle.cc_entry.specs.declared.reply.Outcome.TheVariants as outcome
use Rattle.cc_model.specs.History.{Effect, CameIn, WentOut, Began, Ended, effect_of, history}
use Rattle.cc_laws.proofs.HistorySteps.{history-effect, history-no_effect}
use Rattle.cc_stream.specs.Stream.{is_done}
use Rattle.cc_stream.proofs.StreamSteps.{stands-other as state-other}
use Rattle.cc_ahead.proofs.MapSteps.{stands-other as maps-other}
use Rattle.cc_holds.proofs.HoldsStanding.{moves_holds, stands-other as holds-other}
use Rattle.cc_content.specs.Contents.{Contents, ContentsStand}
use Rattle.cc_content.proofs.ContentSteps.{stands-began}
use Rattle.cc_images.specs.Images.{Images, ImagesStand}
use Rattle.cc_images.proofs.Standing.{stands-came_in, stands-went_out}
use Rattle.cc_model.specs.Allowed.{IsAllowedSoFar}
use Rattle.cc_model.specs.Conditions.{MayComeIn}
use Rattle.cc_model.specs.Good.{IsGoodSoFar}
use Rattle.cc_model.specs.Setup.{Setup}
use Rattle.cc_book.specs.Book.{BookState, BookStands, StandsFor, book_of}
use Rattle.cc_book.specs.declared.book.BookParts.{BookParts}

-- what is kept beside the images in a book that stands for a past stands for its stream's history: its parts, as the box
-- gives them
pub parts-stand : (opening : Option (ℕ → List ℕ)) (past : List Entry) (stream : ℕ) {parts here : BookParts} {b : BookState} → parts ≡ here → book_of stream here ≡ b → BookStands opening past b → StandsFor opening (history past b.stream) (book_of stream parts)
parts-stand opening past stream {parts} {here} {b} given same stands =
    subst (StandsFor opening (history past b.stream)) (sym (ap (book_of stream) given ∙ same))
    (record { state_is = stands.state_is; maps_are = stands.maps_are; holds_are = stands.holds_are; contents_are = stands.contents_are })

-- an entry that means nothing to the stream
pub goes_on_none : (e : Entry) (past : List Entry) (b : BookState) (opening : Option (ℕ → List ℕ)) → effect_of e b.stream ≡ None → BookStands opening past b → BookStands opening (e ∷ past) b
goes_on_none e past b opening none stands = record {
  state_is = rw (history-no_effect e past b.stream none) stands.state_is;
  maps_are = rw (history-no_effect e past b.stream none) stands.maps_are;
  holds_are = rw (history-no_effect e past b.stream none) stands.holds_are;
  contents_are = rw (history-no_effect e past b.stream none) stands.contents_are;
  images_are = rw (history-no_effect e past b.stream none) stands.images_are;
}

-- an effect on the stream that is no done call, with what it makes of the contents
pub goes_on_effect : (effect : Effect) (e : Entry) (past : List Entry) (b : BookState) (now : Contents) (images : Images) (opening : Option (ℕ → List ℕ)) → effect_of e b.stream ≡ Some effect → is_done effect ≡ false → moves_holds effect ≡ false → ContentsStand opening (effect ∷ history past b.stream) now → ImagesStand (effect ∷ history past b.stream) images → BookStands opening past b → BookStands opening (e ∷ past) (record b { contents = now; images = images })
goes_on_effect effect e past b now images opening is no_call no_hold contents kept stands = record {
  state_is = rw (history-effect e past b.stream (Some effect) is) (state-other effect (history past b.stream) b.state no_call stands.state_is);
  maps_are = rw (history-effect e past b.stream (Some effect) is) (maps-other effect (history past b.stream) b.maps no_call stands.maps_are);
  holds_are = rw (history-effect e past b.stream (Some effect) is) (holds-other effect (history past b.stream) b.holds no_hold stands.holds_are);
  contents_are = rw (history-effect e past b.stream (Some effect) is) contents;
  images_are = rw (history-effect e past b.stream (Some effect) is) kept;
}

-- a page came in, or went out
pub goes_on_in : (pass : ℕ) (page : Page) (from_disk : Bool) (past : List Entry) (b : BookState) (now : Contents) (opening : Option (ℕ → List ℕ)) → page.stream ≡ b.stream → ContentsStand opening (CameIn pass page.page from_disk ∷ history past b.stream) now → BookStands opening past b → BookStands opening (entry.PageIn pass page from_disk ∷ past) (record b { contents = now })
goes_on_in pass page from_disk past b now opening same contents stands =
    goes_on_effect (CameIn pass page.page from_disk) (entry.PageIn pass page from_disk) past b now b.images opening (rw (eq-eqb page.stream b.stream same) refl) refl refl contents
    (stands-came_in pass page.page from_disk (history past b.stream) b.images stands.images_are) stands

pub goes_on_out : (pass : ℕ) (page : Page) (past : List Entry) (b : BookState) (now : Contents) (opening : Option (ℕ → List ℕ)) → page.stream ≡ b.stream → ContentsStand opening (WentOut pass page.page ∷ history past b.stream) now → BookStands opening past b → BookStands opening (entry.PageOut pass page ∷ past) (record b { contents = now })
goes_on_out pass page past b now opening same contents stands =
    goes_on_effect (WentOut pass page.page) (entry.PageOut pass page) past b now b.images opening (rw (eq-eqb page.stream b.stream same) refl) refl refl contents
    (stands-went_out pass page.page (history past b.stream) b.images stands.images_are) stands

-- the transfer of a page began, or ended
pub goes_on_began : (pass : ℕ) (page : Page) (past : List Entry) (b : BookState) (images : Images) (opening : Option (ℕ → List ℕ)) → page.stream ≡ b.stream → ImagesStand (Began pass page.page ∷ history past b.stream) images → BookStands opening past b → BookStands opening (entry.WriteBegin pass page ∷ past) (record b { images = images })
goes_on_began pass page past b images opening same kept stands =
    goes_on_effect (Began pass page.page) (entry.WriteBegin pass page) past b b.contents images opening (rw (eq-eqb page.stream b.stream same) refl) refl refl
    (stands-began opening pass page.page (history past b.stream) b.contents stands.contents_are) kept stands

pub goes_on_ended : (pass : ℕ) (page : Page) (how : End) (past : List Entry) (b : BookState) (now : Contents) (images : Images) (opening : Option (ℕ → List ℕ)) → page.stream ≡ b.stream → ContentsStand opening (Ended pass page.page how ∷ history past b.stream) now → ImagesStand (Ended pass page.page how ∷ history past b.stream) images → BookStands opening past b → BookStands opening (entry.WriteEnd pass page how ∷ past) (record b { contents = now; images = images })
goes_on_ended pass page how past b now images opening same =
    goes_on_effect (Ended pass page.page how) (entry.WriteEnd pass page how) past b now images opening (rw (eq-eqb page.stream b.stream same) refl) refl refl

pub history_ended : (pass : ℕ) (page : Page) (how : End) (past : List Entry) (s : ℕ) → page.stream ≡ s → history (entry.WriteEnd pass page how ∷ past) s ≡ Ended pass page.page how ∷ history past s
history_ended pass page how past s same = history-effect (entry.WriteEnd pass page how) past s (Some (Ended pass page.page how)) (rw (eq-eqb page.stream s same) refl)

-- a call that failed
pub goes_on_failed : (pass nth : ℕ) (stream : Option ℕ) (call : Call) (error : CcError) (past : List Entry) (b : BookState) (opening : Option (ℕ → List ℕ)) → BookStands opening past b → BookStands opening (entry.Call pass nth stream call (outcome.Failed error) ∷ past) b
goes_on_failed pass nth None call error past b opening = goes_on_none _ past b opening refl
goes_on_failed pass nth (Some stream) call error past b opening = goes_on_none _ past b opening refl

-- what a page that comes in is allowed on
pub may_come_in : (u : Setup) (past : List Entry) (pass : ℕ) (page : Page) (from_disk : Bool) → IsGoodSoFar u (entry.PageIn pass page from_disk ∷ past) → MayComeIn (history past page.stream) page.page from_disk
unfolding IsAllowedSoFar
may_come_in u past pass page from_disk good = good.allowed.1
