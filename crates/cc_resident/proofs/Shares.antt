-- Pages that are shared with snapshots, and owned again.
use Rattle.std.proofs.Common.{◌≡◌, ℕ, ◌+◌, ◌*◌, ◌/◌, ◌%◌, ◌<◌, ◌≤◌, Bool, true, false, ◌==◌, ◌||◌, List, length, slice_get, Option, None, Some, is_some, Result, Ok, Err, OnOk, OnErr, IfOk, refl, sym, ap, subst, ◌∙◌, true≢false, inl, inr, arith}
use Rattle.std.proofs.lemmas.Bool.{eqb-true, eq-eqb, cases_lt}
use Rattle.std.proofs.lemmas.Bool.Decides.{nat_tests}
use Rattle.std.specs.List.{list_all}
use Rattle.std.specs.Int.{div_ceil}
use Rattle.std.specs.Option.{option_map, IfSome}
use Rattle.cc_entry.specs.Pages.{block_of, has_page, whole_range}
use Rattle.cc_entry.specs.Place.{Range}
use Rattle.cc_pages.specs.Pages.{PageFrame, page_at as page_in, bytes_at, KeepsOtherFrames, Snapshot}
use Rattle.cc_pages.specs.declared.frames.Frame.{Frame}
use Rattle.cc_views.specs.Views.{ViewFrames, MappedViews, frames_at, with_frames}
use Rattle.cc_resident.specs.Residents.{frame_at, page_bytes_at, is_resident, shares, is_shared, AllOwned, rest_of_page, blocks, has_pages, is_block_among, IsFrame, AreResidents}
use Rattle.cc_resident.specs.Changes.{Puts, SameBytes, StaysOwned, SharesOnly, CutsPages}
use Rattle.cc_resident.proofs.Frames.{frame_is, frame_in, page_is, put_views, blocks-with, Puts-with}
use Rattle.cc_resident.proofs.Kept.{page_alike, page_from, has_more, whole_page}
use Rattle.cc_resident.proofs.Lists.{all_weaken}
use Rattle.cc_resident.proofs.Spans.{in_front, in_front-more, in_front-all, no_frame}

-- nothing changed
pub SameBytes-refl : (m : MappedViews) → SameBytes m m
SameBytes-refl m = record { pages = λ p. refl; blocks = refl; quota = refl; size = refl }

pub SameBytes-then : (old mid new : MappedViews) → SameBytes old mid → SameBytes mid new → SameBytes old new
SameBytes-then old mid new a b = record { pages = λ p. b.pages p ∙ a.pages p; blocks = b.blocks ∙ a.blocks; quota = b.quota ∙ a.quota; size = b.size ∙ a.size }

-- what is kept true of the resident pages is still so
pub AreResidents-same : (old new : MappedViews) → AreResidents old → SameBytes old new → AreResidents new
AreResidents-same old new was w =
    record {
      frames = λ p. whole (frame_at old p) (frame_at new p) (sym (page_is old p) ∙ sym (w.pages p) ∙ page_is new p) (was.frames p);
      below = λ p h. omega (arith, w.size, was.below p (sym (resident p) ∙ h));
      blocks_have_pages = ap (list_all (has_pages new)) w.blocks ∙ all_weaken (has_pages old) (has_pages new) (blocks old) (λ b. has_more old new b (λ p h. resident p ∙ h)) was.blocks_have_pages;
    }
  where
    resident : (p : ℕ) → is_resident new p ≡ is_resident old p
    resident p = ap is_some (w.pages p)

    whole : (was now : Option PageFrame) → option_map (λ (f : PageFrame). f.bytes) was ≡ option_map (λ (f : PageFrame). f.bytes) now → IsFrame was → IsFrame now
    whole was None e h = tt
    whole None (Some frame) e h = absurd (true≢false (sym (ap is_some e)))
    whole (Some old) (Some frame) e h = let same : old.bytes ≡ frame.bytes = cc in ap length (sym same) ∙ h

-- the frames of one block changed, and of its pages only one
module _ (m : MappedViews) (page : ℕ) (f w : ViewFrames) (there : frames_at m (block_of page) ≡ Some f) (others : KeepsOtherFrames f w (page % 64)) where
  abbrev reframed : MappedViews
  reframed = put_views m (with_frames m.views (block_of page) w)

  puts : Puts m reframed page (page_in w (page % 64))
  puts = Puts-with m page f w (page_in w (page % 64)) there refl others

  was : frame_at m page ≡ page_in f (page % 64)
  was = frame_is m page ∙ ap (frame_in page) there

  pub SameBytes-reframed : bytes_at w (page % 64) ≡ bytes_at f (page % 64) → SameBytes m reframed
  SameBytes-reframed here =
      record {
        pages = λ p. by p (p == page) refl;
        blocks = blocks-with m (block_of page) w;
        quota = refl;
        size = refl;
      }
    where
      by : (p : ℕ) (b : Bool) → (p == page) ≡ b → page_bytes_at reframed p ≡ page_bytes_at m p
      by p true e =
          let same : p ≡ page = eqb-true p page e in
          ap (page_bytes_at reframed) same ∙ page_from reframed page (page_in w (page % 64)) puts.here ∙ here ∙ sym (ap (page_bytes_at m) same ∙ page_from m page (page_in f (page % 64)) was)
      by p false e = page_alike m reframed p (puts.others p (λ s. true≢false (sym (eq-eqb p page s) ∙ e)))

  pub SharesOnly-reframed : SharesOnly m reframed page
  SharesOnly-reframed p ne = ap shares (puts.others p ne)

  pub shared_reframed : is_shared reframed page ≡ shares (page_in w (page % 64))
  shared_reframed = ap shares puts.here

  pub StaysOwned-reframed : (shares (page_in f (page % 64)) ≡ false → shares (page_in w (page % 64)) ≡ false) → StaysOwned m reframed
  StaysOwned-reframed h p own = by (p == page) refl
    where
      by : (b : Bool) → (p == page) ≡ b → is_shared reframed p ≡ false
      by true e =
          let same : p ≡ page = eqb-true p page e in
          ap (is_shared reframed) same ∙ shared_reframed ∙ h (sym (ap (is_shared m) same ∙ ap shares was) ∙ own)
      by false e = SharesOnly-reframed p (λ s. true≢false (sym (eq-eqb p page s) ∙ e)) ∙ own

-- a snapshot has the bytes of its page, which keeps them
pub snapshot_bytes : (was now : Option PageFrame) (frame : Option Frame) → Snapshot was now frame → (frame ≡ option_map (λ (f : PageFrame). f.bytes) was) × (option_map (λ (f : PageFrame). f.bytes) now ≡ option_map (λ (f : PageFrame). f.bytes) was)
snapshot_bytes None now None h = (refl, ap (option_map (λ (f : PageFrame). f.bytes)) h)
snapshot_bytes None now (Some frame) h = absurd h
snapshot_bytes (Some page) now None h = absurd h
snapshot_bytes (Some page) now (Some frame) h = (ap Some h.0, ap (option_map (λ (f : PageFrame). f.bytes)) h.1)

-- a page that was owned, or is as it was, is not shared
pub still_owned : {E : Type 0} (r : Result (Unit {0}) E) (f w : ViewFrames) (i : ℕ) → OnOk r (shares (page_in w i) ≡ false) → OnErr r (w ≡ f) → shares (page_in f i) ≡ false → shares (page_in w i) ≡ false
still_owned (Ok x) f w i own same h = own
still_owned (Err x) f w i own same h = ap (λ (l : ViewFrames). shares (page_in l i)) same ∙ h

pub owned_if : {E : Type 0} (r : Result (Unit {0}) E) (a b : Bool) → a ≡ b → OnOk r (b ≡ false) → OnOk r (a ≡ false)
owned_if (Ok x) a b same own = same ∙ own
owned_if (Err x) a b same own = tt

-- a page that is not resident is not shared
pub not_shared : (m : MappedViews) (p : ℕ) → frame_at m p ≡ None → is_shared m p ≡ false
not_shared m p none = ap shares none

-- the pages of one block more are owned
pub owned_more : (m n : MappedViews) (order : List ℕ) (place block from to : ℕ) → slice_get order place ≡ Some block → ((p : ℕ) → in_front place order (block_of p) ≡ true → from ≤ p → p < to → is_shared m p ≡ false) → StaysOwned m n
    → ((p : ℕ) → block_of p ≡ block → from ≤ p → p < to → is_shared n p ≡ false) → (p : ℕ) → in_front (place + 1) order (block_of p) ≡ true → from ≤ p → p < to → is_shared n p ≡ false
owned_more m n order place block from to at before stays here p h a b = by (in_front place order (block_of p)) refl (sym (in_front-more place order block (block_of p) at) ∙ h)
  where
    by : (t : Bool) → in_front place order (block_of p) ≡ t → (in_front place order (block_of p) || (block_of p == block)) ≡ true → is_shared n p ≡ false
    by true e k = stays p (before p e a b)
    by false e k = here p (eqb-true (block_of p) block (sym (ap (λ z. z || (block_of p == block)) e) ∙ k)) a b

-- and so those of all blocks
pub owned_all : (m n : MappedViews) (place from to : ℕ) → blocks n ≡ blocks m → length (blocks m) ≤ place → ((p : ℕ) → in_front place (blocks m) (block_of p) ≡ true → from ≤ p → p < to → is_shared n p ≡ false) → (p : ℕ) → from ≤ p → p < to → is_shared n p ≡ false
owned_all m n place from to order all h p a b = by (is_block_among (block_of p) (blocks m)) refl
  where
    by : (t : Bool) → is_block_among (block_of p) (blocks m) ≡ t → is_shared n p ≡ false
    by true e = h p (in_front-all place (blocks m) (block_of p) all ∙ e) a b
    by false e = not_shared n p (no_frame n p (ap (is_block_among (block_of p)) order ∙ e))

-- the pages with bytes of a range
pub page_within : (r : Range) (p : ℕ) → has_page r p ≡ true → (r.from / 4096 ≤ p) × (p < div_ceil r.to 4096)
page_within r p h =
    let a : r.from < 4096 * p + 4096 = grind (arith, nat_tests) in
    let b : 4096 * p < r.to = grind (arith, nat_tests) in
    (omega arith, omega arith)

pub page_has : (r : Range) (p : ℕ) → r.from < r.to → r.from < 4096 * p + 4096 → 4096 * p < r.to → has_page r p ≡ true
page_has r p a b c = grind (arith, nat_tests)

pub AllOwned-span : (m : MappedViews) (r : Range) → ((p : ℕ) → r.from / 4096 ≤ p → p < div_ceil r.to 4096 → is_shared m p ≡ false) → AllOwned m r
AllOwned-span m r h p has = let w = page_within r p has in h p w.0 w.1

-- a range that has no byte has none in a page
pub AllOwned-none : (m : MappedViews) (r : Range) → r.to ≤ r.from → AllOwned m r
AllOwned-none m r none p has = absurd (let h : r.from < r.to = grind (arith, nat_tests) in omega (arith, h, none))

-- the bytes from a place to the end of its page are in one page
pub AllOwned-rest : (m : MappedViews) (at : ℕ) → ((p : ℕ) → at / 4096 ≤ p → p < div_ceil at 4096 → is_shared m p ≡ false) → AllOwned m (rest_of_page at)
AllOwned-rest m at h p has =
    let w = page_within (rest_of_page at) p has in
    h p w.0 (omega (arith, w.1))

-- the page of which a cut zeroes a part is owned after whole pages were cut
pub owned_after_cut : (old mid : MappedViews) (size : ℕ) → AllOwned old (rest_of_page size) → CutsPages old mid size → is_shared mid (size / 4096) ≡ false
owned_after_cut old mid size own c =
    elim (cases_lt (4096 * (size / 4096)) size) [
      | inl h ↦ ap shares (c.kept (size / 4096) h) ∙ own (size / 4096) (page_has (rest_of_page size) (size / 4096) (omega arith) (omega arith) (omega arith))
      | inr h ↦ not_shared mid (size / 4096) (c.gone (size / 4096) h)
    ]

-- the page of a byte of a range is owned
pub owned_in : (m : MappedViews) (at n i : ℕ) → AllOwned m (whole_range at n) → at ≤ i → i < at + n → is_shared m (i / 4096) ≡ false
owned_in m at n i own a b = own (i / 4096) (page_has (whole_range at n) (i / 4096) (omega arith) (omega arith) (omega arith))

-- where the same pages are shared, those of a range still are owned
pub AllOwned-alike : (m n : MappedViews) (r : Range) → ((p : ℕ) → is_shared n p ≡ is_shared m p) → AllOwned m r → AllOwned n r
AllOwned-alike m n r e own p has = e p ∙ own p has

-- a page of a block that is not mapped has no frame
pub frame_unmapped : (m : MappedViews) (page : ℕ) → frames_at m (block_of page) ≡ None → frame_at m page ≡ None
frame_unmapped m page none = frame_is m page ∙ ap (frame_in page) none

-- and the snapshot of a page of a mapped block is that of its frame
pub snapshot_of : (m : MappedViews) (page : ℕ) (f : ViewFrames) (frame : Option Frame) → frames_at m (block_of page) ≡ Some f → frame ≡ option_map (λ (x : PageFrame). x.bytes) (page_in f (page % 64)) → frame ≡ page_bytes_at m page
snapshot_of m page f frame there is = is ∙ sym (page_from m page (page_in f (page % 64)) (frame_is m page ∙ ap (frame_in page) there))

-- which is whole
pub snapshot_whole : {E : Type 0} (r : Result (Option Frame) E) (m : MappedViews) (page : ℕ) → IsFrame (frame_at m page) → IfOk r (λ frame. frame ≡ page_bytes_at m page) → IfOk r (λ frame. IfSome frame (λ bytes. length bytes ≡ 4096))
snapshot_whole (Ok frame) m page h is = subst (λ o. IfSome o (λ bytes. length bytes ≡ 4096)) (sym is) (whole_page m page h)
snapshot_whole (Err e) m page h is = tt
