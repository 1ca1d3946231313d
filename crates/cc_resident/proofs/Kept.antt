-- What each change keeps true of the resident pages.
use Rattle.std.proofs.Common.{◌≡◌, ℕ, ◌+◌, ◌*◌, ◌%◌, ◌<◌, Bool, true, false, not, ◌||◌, ◌==◌, if◌then◌else◌, List, [], ◌∷◌, length, Option, None, Some, is_some, Result, Ok, Err, OnOk, OnErr, refl, sym, ap, subst, ◌∙◌, true≢false, arith}
use Rattle.std.proofs.lemmas.Bool.{eqb-true, eq-eqb}
use Rattle.std.specs.List.{filter, list_all}
use Rattle.std.specs.Option.{option_map, IfSome}
use Rattle.cc_entry.specs.Pages.{block_of}
use Rattle.cc_pages.specs.Pages.{PageFrame, owned}
use Rattle.cc_views.specs.Views.{MappedViews, frames_at}
use Rattle.cc_resident.specs.Residents.{frame_at, page_bytes_at, is_resident, blocks, has_pages, is_block_among, order_without, used, IsFrame, AreResidents}
use Rattle.cc_resident.specs.Changes.{Puts, KeepsFrames, KeepsOthers as KeepsOtherPages}
use Rattle.cc_resident.proofs.Lists.{any_alike, any_within, all_at, any_weaken, all_filter, all_weaken, all_push, all_kept, filter_but}
use Rattle.cc_resident.proofs.Frames.{frame_is, frame_in, page_is, resident_is, none_from, among_is, no_pages}

-- the pages of one frame are those of another that is the same
pub page_alike : (m n : MappedViews) (p : ℕ) → frame_at n p ≡ frame_at m p → page_bytes_at n p ≡ page_bytes_at m p
page_alike m n p e = page_is n p ∙ ap (option_map (λ (f : PageFrame). f.bytes)) e ∙ sym (page_is m p)

-- the frame of a page that is known
pub page_from : (m : MappedViews) (p : ℕ) (frame : Option PageFrame) → frame_at m p ≡ frame → page_bytes_at m p ≡ option_map (λ (f : PageFrame). f.bytes) frame
page_from m p frame e = page_is m p ∙ ap (option_map (λ (f : PageFrame). f.bytes)) e

pub others_alike : (m n : MappedViews) (page : ℕ) (frame : Option PageFrame) → Puts m n page frame → KeepsOtherPages m n page
others_alike m n page frame w = λ p ne. page_alike m n p (w.others p ne)

-- a block has a page as before where the frames of its pages are as before
pub has_alike : (m n : MappedViews) (block : ℕ) → ((p : ℕ) → block_of p ≡ block → frame_at n p ≡ frame_at m p) → has_pages n block ≡ has_pages m block
unfolding has_pages
has_alike m n block h = any_alike (is_resident n) (is_resident m) (64 * block) (64 * block) 64 (λ i l. ap is_some (page_alike m n (64 * block + i) (h (64 * block + i) (omega arith))))

-- and still where each resident page stays
pub has_more : (m n : MappedViews) (block : ℕ) → ((p : ℕ) → is_resident m p ≡ true → is_resident n p ≡ true) → has_pages m block ≡ true → has_pages n block ≡ true
unfolding has_pages
has_more m n block h = any_weaken (is_resident m) (is_resident n) (64 * block) 64 h

-- the block of a resident page has one
pub has_here : (m : MappedViews) (p : ℕ) → is_resident m p ≡ true → has_pages m (block_of p) ≡ true
unfolding has_pages
has_here m p h =
    let at : 64 * block_of p + p % 64 ≡ p = omega arith in
    any_within (is_resident m) (64 * block_of p) 64 (p % 64) (omega arith) (ap (is_resident m) at ∙ h)

-- a page came in
pub AreResidents-brought : (old new : MappedViews) (page : ℕ) (bytes : List ℕ) → AreResidents old → 4096 * page < old.size → Puts old new page (Some (owned bytes)) → length bytes ≡ 4096 → blocks new ≡ used (block_of page ∷ []) (blocks old) → AreResidents new
AreResidents-brought old new page bytes was starts w n order =
    record {
      frames = λ p. frames p (p == page) refl;
      below = λ p. below p (p == page) refl;
      blocks_have_pages =
          ap (list_all (has_pages new)) order
          ∙ all_push (has_pages new) (order_without (block_of page) (blocks old)) (block_of page)
          (all_filter (has_pages new) (λ b. not (b == block_of page)) (blocks old) (all_weaken (has_pages old) (has_pages new) (blocks old) (λ b. has_more old new b stays) was.blocks_have_pages))
          (has_here new page here);
    }
  where
    here : is_resident new page ≡ true
    here = resident_is new page ∙ ap is_some w.here

    frames : (p : ℕ) (b : Bool) → (p == page) ≡ b → IsFrame (frame_at new p)
    frames p true e = subst IsFrame (sym (ap (frame_at new) (eqb-true p page e) ∙ w.here)) n
    frames p false e = subst IsFrame (sym (w.others p (λ s. true≢false (sym (eq-eqb p page s) ∙ e)))) (was.frames p)

    below : (p : ℕ) (b : Bool) → (p == page) ≡ b → is_resident new p ≡ true → 4096 * p < new.size
    below p true e h = omega (arith, eqb-true p page e, w.size)
    below p false e h =
        omega (arith, w.size, was.below p (sym (ap is_some (page_alike old new p (w.others p (λ s. true≢false (sym (eq-eqb p page s) ∙ e))))) ∙ h))

    stays : (p : ℕ) → is_resident old p ≡ true → is_resident new p ≡ true
    stays p h = by (p == page) refl
      where
        by : (b : Bool) → (p == page) ≡ b → is_resident new p ≡ true
        by true e = ap (is_resident new) (eqb-true p page e) ∙ here
        by false e = ap is_some (page_alike old new p (w.others p (λ s. true≢false (sym (eq-eqb p page s) ∙ e)))) ∙ h

-- or none did
pub AreResidents-tried : {E : Type 0} (r : Result (Unit {0}) E) (old new : MappedViews) (page : ℕ) (bytes : List ℕ) → AreResidents old → 4096 * page < old.size → OnOk r (Puts old new page (Some (owned bytes))) → length bytes ≡ 4096 → OnOk r (blocks new ≡ used (block_of page ∷ []) (blocks old)) → OnErr r (new ≡ old) → AreResidents new
AreResidents-tried (Ok x) old new page bytes was starts w n order same = AreResidents-brought old new page bytes was starts w n order
AreResidents-tried (Err e) old new page bytes was starts w n order same = subst AreResidents (sym same) was

pub others-tried : {E : Type 0} (r : Result (Unit {0}) E) (old new : MappedViews) (page : ℕ) (frame : Option PageFrame) → OnOk r (Puts old new page frame) → OnErr r (new ≡ old) → KeepsOtherPages old new page
others-tried (Ok x) old new page frame w same = others_alike old new page frame w
others-tried (Err e) old new page frame w same = λ p _. ap (λ m. page_bytes_at m p) same

pub page-tried : {E : Type 0} (r : Result (Unit {0}) E) (old new : MappedViews) (page : ℕ) (bytes : List ℕ) → OnOk r (Puts old new page (Some (owned bytes))) → OnOk r (page_bytes_at new page ≡ Some bytes)
page-tried (Ok x) old new page bytes w = page_from new page (Some (owned bytes)) w.here
page-tried (Err e) old new page bytes w = tt

-- one page after the other of the same place
pub Puts-after : (old mid new : MappedViews) (page : ℕ) (frame : Option PageFrame) → KeepsFrames old mid → Puts mid new page frame → Puts old new page frame
Puts-after old mid new page frame k w = record { here = w.here; others = λ p ne. w.others p ne ∙ k.frames p; quota = w.quota ∙ k.quota; size = w.size ∙ k.size }

pub Puts-before : (old mid new : MappedViews) (page : ℕ) (frame : Option PageFrame) → Puts old mid page frame → KeepsFrames mid new → Puts old new page frame
Puts-before old mid new page frame w k = record { here = k.frames page ∙ w.here; others = λ p ne. k.frames p ∙ w.others p ne; quota = k.quota ∙ w.quota; size = k.size ∙ w.size }

-- a page was taken out
pub blocks-left : (old mid new : MappedViews) (page : ℕ) → AreResidents old → Puts old mid page None → blocks mid ≡ blocks old → KeepsFrames mid new
    → blocks new ≡ (if has_pages mid (block_of page) then blocks mid else order_without (block_of page) (blocks mid)) → blocks new ≡ filter (has_pages new) (blocks old)
blocks-left old mid new page was w order k left =
    let same : has_pages new (block_of page) ≡ has_pages mid (block_of page) = has_alike mid new (block_of page) (λ p _. k.frames p) in
    left ∙ ap (λ l. if has_pages mid (block_of page) then l else order_without (block_of page) l) order
    ∙ ap (λ b. if b then blocks old else order_without (block_of page) (blocks old)) (sym same)
    ∙ sym (filter_but (has_pages new) (block_of page) (blocks old) (all_weaken (has_pages old) (λ b. (b == block_of page) || has_pages new b) (blocks old) (λ b h. by b h (b == block_of page) refl) was.blocks_have_pages))
  where
    by : (b : ℕ) → has_pages old b ≡ true → (t : Bool) → (b == block_of page) ≡ t → (t || has_pages new b) ≡ true
    by b h true e = refl
    by b h false e =
        has_alike old new b (λ p s. k.frames p ∙ w.others p (λ q. true≢false (sym (eq-eqb b (block_of page) (sym s ∙ ap block_of q)) ∙ e))) ∙ h

pub AreResidents-left : (old new : MappedViews) → AreResidents old → ((p : ℕ) → IsFrame (frame_at new p)) → ((p : ℕ) → is_resident new p ≡ true → 4096 * p < new.size) → blocks new ≡ filter (has_pages new) (blocks old) → AreResidents new
AreResidents-left old new was frames below order =
    record { frames = frames; below = below; blocks_have_pages = ap (list_all (has_pages new)) order ∙ all_kept (has_pages new) (blocks old) }

pub frames-out : (old new : MappedViews) (page : ℕ) → ((p : ℕ) → IsFrame (frame_at old p)) → Puts old new page None → (p : ℕ) → IsFrame (frame_at new p)
frames-out old new page was w p = by (p == page) refl
  where
    by : (b : Bool) → (p == page) ≡ b → IsFrame (frame_at new p)
    by true e = subst IsFrame (sym (ap (frame_at new) (eqb-true p page e) ∙ w.here)) tt
    by false e = subst IsFrame (sym (w.others p (λ s. true≢false (sym (eq-eqb p page s) ∙ e)))) (was p)

pub below-out : (old new : MappedViews) (page : ℕ) → ((p : ℕ) → is_resident old p ≡ true → 4096 * p < old.size) → Puts old new page None → (p : ℕ) → is_resident new p ≡ true → 4096 * p < new.size
below-out old new page was w p = by (p == page) refl
  where
    by : (b : Bool) → (p == page) ≡ b → is_resident new p ≡ true → 4096 * p < new.size
    by true e h = absurd (true≢false (sym h ∙ resident_is new p ∙ ap is_some (ap (frame_at new) (eqb-true p page e) ∙ w.here)))
    by false e h =
        omega (arith, w.size, was p (sym (ap is_some (page_alike old new p (w.others p (λ s. true≢false (sym (eq-eqb p page s) ∙ e))))) ∙ h))

-- no page at all
pub no_frames : (m : MappedViews) → blocks m ≡ [] → (p : ℕ) → frame_at m p ≡ None
no_frames m h p =
    let none : frames_at m (block_of p) ≡ None = none_from (frames_at m (block_of p)) (among_is m (block_of p) ∙ ap (is_block_among (block_of p)) h) in
    frame_is m p ∙ ap (frame_in p) none

-- a block is mapped where it has a page
pub has_is : (m : MappedViews) (block : ℕ) → AreResidents m → is_some (frames_at m block) ≡ has_pages m block
has_is m block h = by (is_some (frames_at m block)) refl
  where
    by : (b : Bool) → is_some (frames_at m block) ≡ b → is_some (frames_at m block) ≡ has_pages m block
    by true e = e ∙ sym (all_at (has_pages m) block (blocks m) h.blocks_have_pages (sym (among_is m block) ∙ e))
    by false e = e ∙ sym (no_pages m block (none_from (frames_at m block) e))

-- a block was used
pub AreResidents-used : (old new : MappedViews) (block : ℕ) → AreResidents old → is_block_among block (blocks old) ≡ true → KeepsFrames old new → blocks new ≡ used (block ∷ []) (blocks old) → AreResidents new
AreResidents-used old new block was there k order =
    record {
      frames = λ p. subst IsFrame (sym (k.frames p)) (was.frames p);
      below = λ p h. omega (arith, k.size, was.below p (sym (ap is_some (page_alike old new p (k.frames p))) ∙ h));
      blocks_have_pages =
          ap (list_all (has_pages new)) order
          ∙ all_push (has_pages new) (order_without block (blocks old)) block (all_filter (has_pages new) (λ b. not (b == block)) (blocks old) all) (all_at (has_pages new) block (blocks old) all there);
    }
  where
    all : list_all (has_pages new) (blocks old) ≡ true
    all = all_weaken (has_pages old) (has_pages new) (blocks old) (λ b h. has_alike old new b (λ p _. k.frames p) ∙ h) was.blocks_have_pages

pub Keeps-then : (old mid new : MappedViews) → KeepsFrames old mid → KeepsFrames mid new → KeepsFrames old new
Keeps-then old mid new a b = record { frames = λ p. b.frames p ∙ a.frames p; quota = b.quota ∙ a.quota; size = b.size ∙ a.size }

-- a resident page has all its bytes
pub whole_page : (m : MappedViews) (p : ℕ) → IsFrame (frame_at m p) → IfSome (page_bytes_at m p) (λ bytes. length bytes ≡ 4096)
whole_page m p h = subst (λ o. IfSome o (λ bytes. length bytes ≡ 4096)) (sym (page_is m p)) (by (frame_at m p) h)
  where
    by : (o : Option PageFrame) → IsFrame o → IfSome (option_map (λ (f : PageFrame). f.bytes) o) (λ bytes. length bytes ≡ 4096)
    by None h = tt
    by (Some frame) h = h
