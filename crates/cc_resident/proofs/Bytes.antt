-- The bytes of the stream after a write.
use Rattle.std.proofs.Common.{◌≡◌, ◌≢◌, ℕ, ◌+◌, ◌-◌, ◌*◌, ◌/◌, ◌%◌, ◌<◌, ◌≤◌, zero, suc, Bool, true, false, ◌==◌, nat_lt, List, [], cond, length, get_or, Some, is_some, refl, sym, ap, subst, ◌∙◌, true≢false, inl, inr, arith}
use Rattle.std.proofs.lemmas.Bool.{eqb-true, eq-eqb, cases_lt}
use Rattle.std.proofs.lemmas.Bool.Decides.{nat_tests}
use Rattle.std.proofs.lemmas.Grind.{common_steps}
use Rattle.std.specs.List.{list_all, range_with_len}
use Rattle.std.specs.Option.{option_map, IfSome}
use Rattle.cc_entry.specs.Pages.{has_byte, whole_range}
use Rattle.cc_entry.specs.Place.{Range}
use Rattle.cc_pages.specs.Pages.{PageFrame, owned, overwritten}
use Rattle.cc_views.specs.Views.{MappedViews}
use Rattle.cc_resident.specs.Residents.{frame_at, page_bytes_at, byte_at, is_resident, shares, is_shared, blocks, has_pages, all_resident, all_mapped, is_block_among, IsFrame, AreResidents}
use Rattle.cc_resident.specs.Changes.{Puts, CoversRange}
use Rattle.cc_resident.proofs.Frames.{resident_is, some_from}
use Rattle.cc_resident.proofs.Kept.{page_alike, page_from, has_more}
use Rattle.cc_resident.proofs.Lists.{all_weaken, both_true}

pub byte_is : (m : MappedViews) (i : ℕ) → byte_at m i ≡ option_map (λ bytes. get_or bytes (i % 4096) 0) (page_bytes_at m (i / 4096))
unfolding byte_at
byte_is m i = refl

-- the bytes of a page that was written
over-inside : (xs bs : List ℕ) (at k : ℕ) → length xs ≡ 4096 → at + length bs ≤ 4096 → at ≤ k → k < at + length bs → get_or (overwritten xs at bs) k 0 ≡ get_or bs (k - at) 0
over-inside xs bs at k n fits from to = grind (arith, common_steps)

over-before : (xs bs : List ℕ) (at k : ℕ) → length xs ≡ 4096 → at + length bs ≤ 4096 → k < at → get_or (overwritten xs at bs) k 0 ≡ get_or xs k 0
over-before xs bs at k n fits below = grind (arith, common_steps)

over-after : (xs bs : List ℕ) (at k : ℕ) → length xs ≡ 4096 → at + length bs ≤ 4096 → at + length bs ≤ k → get_or (overwritten xs at bs) k 0 ≡ get_or xs k 0
over-after xs bs at k n fits above = grind (arith, common_steps)

over-outside : (xs bs : List ℕ) (at k : ℕ) → length xs ≡ 4096 → at + length bs ≤ 4096 → (at ≤ k → k < at + length bs → ⊥) → get_or (overwritten xs at bs) k 0 ≡ get_or xs k 0
over-outside xs bs at k n fits out =
    elim (cases_lt k at) [
      | inl l ↦ over-before xs bs at k n fits l
      | inr g ↦ elim (cases_lt k (at + length bs)) [ inl l ↦ absurd (out g l) | inr h ↦ over-after xs bs at k n fits h ]
    ]

over-long : (xs bs : List ℕ) (at : ℕ) → length xs ≡ 4096 → at + length bs ≤ 4096 → length (overwritten xs at bs) ≡ 4096
over-long xs bs at n fits = grind (arith, common_steps)

-- what a test of a place says
pub in_range : (r : Range) (i : ℕ) → has_byte r i ≡ true → (r.from ≤ i) × (i < r.to)
in_range r i h = (grind (arith, nat_tests), grind (arith, nat_tests))

pub out_of_range : (r : Range) (i : ℕ) → has_byte r i ≡ false → r.from ≤ i → i < r.to → ⊥
out_of_range r i h a b = grind (arith, nat_tests)

-- bytes were written over those of a page
pub record Over (old new : MappedViews) (page at : ℕ) (bs : List ℕ) : Type 0 where
  pub frame : PageFrame
  pub was : frame_at old page ≡ Some frame
  pub long : length frame.bytes ≡ 4096
  pub owned_is : is_shared old page ≡ false
  pub fits : at + length bs ≤ 4096
  pub puts : Puts old new page (Some (owned (overwritten frame.bytes at bs)))

pub Over-from : (old new : MappedViews) (page at : ℕ) (bs : List ℕ) → is_resident old page ≡ true → is_shared old page ≡ false → IsFrame (frame_at old page) → at + length bs ≤ 4096
    → IfSome (frame_at old page) (λ frame. Puts old new page (Some (owned (overwritten frame.bytes at bs)))) → Over old new page at bs
Over-from old new page at bs h own is fits w =
    let f = some_from (frame_at old page) (sym (resident_is old page) ∙ h) in
    record {
      frame = f.0;
      was = f.1;
      long = subst IsFrame f.1 is;
      owned_is = own;
      fits = fits;
      puts = subst (λ o. IfSome o (λ frame. Puts old new page (Some (owned (overwritten frame.bytes at bs))))) f.1 w;
    }

module _ (old new : MappedViews) (page at : ℕ) (bs : List ℕ) (o : Over old new page at bs) where
  was_byte : (i : ℕ) → i / 4096 ≡ page → byte_at old i ≡ Some (get_or o.frame.bytes (i % 4096) 0)
  was_byte i e = byte_is old i ∙ ap (option_map (λ bytes. get_or bytes (i % 4096) 0)) (ap (page_bytes_at old) e ∙ page_from old page (Some o.frame) o.was)

  new_byte : (i : ℕ) → i / 4096 ≡ page → byte_at new i ≡ Some (get_or (overwritten o.frame.bytes at bs) (i % 4096) 0)
  new_byte i e = byte_is new i ∙ ap (option_map (λ bytes. get_or bytes (i % 4096) 0)) (ap (page_bytes_at new) e ∙ page_from new page (Some (owned (overwritten o.frame.bytes at bs))) o.puts.here)

  over_inside : (i : ℕ) → (4096 * page + at ≤ i) × (i < 4096 * page + at + length bs) → byte_at new i ≡ option_map (λ _. get_or bs (i - (4096 * page + at)) 0) (byte_at old i)
  over_inside i h =
      let fits = o.fits in
      let e : i / 4096 ≡ page = omega (arith, h.0, h.1) in
      let from : at ≤ i % 4096 = omega (arith, h.0, h.1) in
      let to : i % 4096 < at + length bs = omega (arith, h.0, h.1) in
      let place : i % 4096 - at ≡ i - (4096 * page + at) = omega (arith, h.0, h.1) in
      new_byte i e ∙ ap Some (over-inside o.frame.bytes bs at (i % 4096) o.long o.fits from to ∙ ap (λ k. get_or bs k 0) place)
      ∙ sym (ap (option_map (λ _. get_or bs (i - (4096 * page + at)) 0)) (was_byte i e))

  over_outside : (i : ℕ) → (4096 * page + at ≤ i → i < 4096 * page + at + length bs → ⊥) → byte_at new i ≡ byte_at old i
  over_outside i h = by (i / 4096 == page) refl
    where
      by : (b : Bool) → (i / 4096 == page) ≡ b → byte_at new i ≡ byte_at old i
      by true t =
          let e : i / 4096 ≡ page = eqb-true (i / 4096) page t in
          new_byte i e
          ∙ ap Some (over-outside o.frame.bytes bs at (i % 4096) o.long o.fits (λ a b. h (omega (arith, a, b, e)) (omega (arith, a, b, e))))
          ∙ sym (was_byte i e)
      by false t =
          byte_is new i ∙ ap (option_map (λ bytes. get_or bytes (i % 4096) 0)) (page_alike old new (i / 4096) (o.puts.others (i / 4096) (λ s. true≢false (sym (eq-eqb (i / 4096) page s) ∙ t))))
          ∙ sym (byte_is old i)

  over_pages : (p : ℕ) → is_resident new p ≡ is_resident old p
  over_pages p = by (p == page) refl
    where
      by : (b : Bool) → (p == page) ≡ b → is_resident new p ≡ is_resident old p
      by true t =
          let e : p ≡ page = eqb-true p page t in
          ap (is_resident new) e ∙ resident_is new page ∙ ap is_some o.puts.here ∙ sym (ap (is_resident old) e ∙ resident_is old page ∙ ap is_some o.was)
      by false t = ap is_some (page_alike old new p (o.puts.others p (λ s. true≢false (sym (eq-eqb p page s) ∙ t))))

  over_shared : (p : ℕ) → is_shared new p ≡ is_shared old p
  over_shared p = by (p == page) refl
    where
      by : (b : Bool) → (p == page) ≡ b → is_shared new p ≡ is_shared old p
      by true t =
          let e : p ≡ page = eqb-true p page t in
          ap (is_shared new) e ∙ ap shares o.puts.here ∙ sym (ap (is_shared old) e ∙ o.owned_is)
      by false t = ap shares (o.puts.others p (λ s. true≢false (sym (eq-eqb p page s) ∙ t)))

  pub Covers-over : CoversRange old new (whole_range (4096 * page + at) (length bs)) (λ i. get_or bs (i - (4096 * page + at)) 0)
  Covers-over =
      let r = whole_range (4096 * page + at) (length bs) in
      record {
        inside = λ i h. over_inside i (in_range r i h);
        outside = λ i h. over_outside i (out_of_range r i h);
        pages = over_pages;
        shared = over_shared;
      }

  over_frames : ((p : ℕ) → IsFrame (frame_at old p)) → (p : ℕ) → IsFrame (frame_at new p)
  over_frames was p = by (p == page) refl
    where
      by : (b : Bool) → (p == page) ≡ b → IsFrame (frame_at new p)
      by true t = subst IsFrame (sym (ap (frame_at new) (eqb-true p page t) ∙ o.puts.here)) (over-long o.frame.bytes bs at o.long o.fits)
      by false t = subst IsFrame (sym (o.puts.others p (λ s. true≢false (sym (eq-eqb p page s) ∙ t)))) (was p)

  pub AreResidents-over : AreResidents old → blocks new ≡ blocks old → AreResidents new
  AreResidents-over was order =
      record {
        frames = over_frames was.frames;
        below = λ p h. omega (arith, o.puts.size, was.below p (sym (over_pages p) ∙ h));
        blocks_have_pages = ap (list_all (has_pages new)) order ∙ all_weaken (has_pages old) (has_pages new) (blocks old) (λ b. has_more old new b (λ p h. over_pages p ∙ h)) was.blocks_have_pages;
      }

-- the pages of a range
all_range : (f : ℕ → Bool) (a n p : ℕ) → list_all f (range_with_len a n) ≡ true → a ≤ p → p < a + n → f p ≡ true
all_range f a zero p h from to = absurd (omega arith)
all_range f a (suc n) p h from to = by (a == p) refl (both_true (f a) (list_all f (range_with_len (a + 1) n)) h) (λ k. all_range f (a + 1) n p k)
  where
    by : (b : Bool) → (a == p) ≡ b → (f a ≡ true) × (list_all f (range_with_len (a + 1) n) ≡ true) → (list_all f (range_with_len (a + 1) n) ≡ true → a + 1 ≤ p → p < a + 1 + n → f p ≡ true) → f p ≡ true
    by true e k rest = ap f (sym (eqb-true a p e)) ∙ k.0
    by false e k rest =
        let apart : a ≢ p = λ s. true≢false (sym (eq-eqb a p s) ∙ e) in
        rest k.1 (omega arith) (omega arith)

pub resident_in : (m : MappedViews) (at n i : ℕ) → all_resident m (whole_range at n) ≡ true → at ≤ i → i < at + n → is_resident m (i / 4096) ≡ true
resident_in m at n i h from to =
    let some : nat_lt at (at + n) ≡ true = grind (arith, nat_tests) in
    let k = ap (λ b. list_all (is_resident m) (cond b (range_with_len (at / 4096) ((at + n - 1) / 4096 + 1 - at / 4096)) [])) some in
    all_range (is_resident m) (at / 4096) ((at + n - 1) / 4096 + 1 - at / 4096) (i / 4096) (sym k ∙ h) (omega arith) (omega arith)

pub mapped_in : (m : MappedViews) (from to block : ℕ) → from < to → all_mapped m (record { from = from; to = to }) ≡ true → from / 262144 ≤ block → block < (to - 1) / 262144 + 1 → is_block_among block (blocks m) ≡ true
mapped_in m from to block some h above below =
    let test : nat_lt from to ≡ true = grind (arith, nat_tests) in
    let n = (to - 1) / 262144 + 1 - from / 262144 in
    let k = ap (λ b. list_all (λ x. is_block_among x (blocks m)) (cond b (range_with_len (from / 262144) n) [])) test in
    all_range (λ x. is_block_among x (blocks m)) (from / 262144) n block (sym k ∙ h) above (omega arith)
