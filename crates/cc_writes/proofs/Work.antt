-- What is left to do for a call gets less with each page that comes in, is written or goes out.
use Rattle.std.specs.Prelude.{◌≡◌, ℕ, ◌+◌, ◌*◌, ◌<◌, ◌≤◌, Bool, true, false, not, ◌&&◌, ◌||◌, ◌==◌, List, [], ◌∷◌, refl}
use Rattle.std.specs.declared.option.Option.{Option}
use Rattle.std.specs.declared.option.Option.TheVariants.{Some, None}
use Rattle.std.proofs.Common.{ap, sym, ◌∙◌, subst, arith}
use Rattle.std.proofs.lemmas.Bool.{or_left, eqb-true, eq-eqb}
use Rattle.cc_entry.specs.Pages.{has_page, pages_of}
use Rattle.cc_entry.specs.Place.{Range}
use Rattle.cc_entry.specs.declared.entry.End.{End}
use Rattle.cc_laws.proofs.DirtySteps.{is_dirty-came_in, is_dirty-went_out, is_dirty-began, is_dirty-ended_other}
use Rattle.cc_laws.proofs.PlacesResident.{among-without}
use Rattle.cc_laws.proofs.ResidencySteps.{residents-came_in, residents-went_out, residents-began, residents-ended}
use Rattle.cc_laws.proofs.SizeSteps.{sizes-came_in, sizes-went_out, sizes-began, sizes-ended}
use Rattle.cc_laws.proofs.TransferLaws.{unwritten-transferred}
use Rattle.cc_model.specs.History.{Effect, CameIn, WentOut, Began, Ended}
use Rattle.cc_model.specs.Numbers.{is_among, is_empty, without}
use Rattle.cc_model.specs.Residency.{is_resident, residents}
use Rattle.cc_model.specs.Sizes.{ended_ok}
use Rattle.cc_model.specs.Touches.{size_of, is_dirty, is_mapped}
use Rattle.cc_step.proofs.Outside.{page-among}
use Rattle.cc_writes.specs.Work.{page_work, work_on, work_left}

as-much : (a : ℕ) → a ≤ a
as-much a = omega arith

weaker : (a b : ℕ) → a < b → a ≤ b
weaker a b less = omega (arith, less)

in-all : (a b c d : ℕ) → a ≤ b → c ≤ d → a + c ≤ b + d
in-all a b c d x y = omega (arith, x, y)

first-less : (a b c d : ℕ) → a < b → c ≤ d → a + c < b + d
first-less a b c d x y = omega (arith, x, y)

rest-less : (a b c d : ℕ) → a ≤ b → c < d → a + c < b + d
rest-less a b c d x y = omega (arith, x, y)

-- one page has less left, and the others are as they were
module _ (h k : List Effect) (r : Range) (page : ℕ)
    (others : (p : ℕ) → (page == p) ≡ false → (is_resident k p ≡ is_resident h p) × (is_dirty k p ≡ is_dirty h p))
    (less : page_work (has_page r page) (is_resident k page) (is_dirty k page) < page_work (has_page r page) (is_resident h page) (is_dirty h page)) where
  at-most : (p : ℕ) → page_work (has_page r p) (is_resident k p) (is_dirty k p) ≤ page_work (has_page r p) (is_resident h p) (is_dirty h p)
  at-most p = by (page == p) refl
    where
      by : (b : Bool) → (page == p) ≡ b → page_work (has_page r p) (is_resident k p) (is_dirty k p) ≤ page_work (has_page r p) (is_resident h p) (is_dirty h p)
      by true is =
          subst (λ (n : ℕ). page_work (has_page r n) (is_resident k n) (is_dirty k n) ≤ page_work (has_page r n) (is_resident h n) (is_dirty h n))
          (eqb-true page p is) (weaker _ _ less)
      by false is =
          let same = others p is in
          subst (λ (b : Bool). page_work (has_page r p) b (is_dirty k p) ≤ page_work (has_page r p) (is_resident h p) (is_dirty h p)) (sym same.0)
          (subst (λ (b : Bool). page_work (has_page r p) (is_resident h p) b ≤ page_work (has_page r p) (is_resident h p) (is_dirty h p)) (sym same.1) (as-much _))

  no-more : (pages : List ℕ) → work_on k r pages ≤ work_on h r pages
  no-more [] = omega arith
  no-more (p ∷ pages) = in-all _ _ _ _ (at-most p) (no-more pages)

  less-on : (pages : List ℕ) → is_among page pages ≡ true → work_on k r pages < work_on h r pages
  less-on [] among = absurd (cc)
  less-on (p ∷ pages) among = by (p == page) refl among (λ rest. less-on pages rest)
    where
      by : (b : Bool) → (p == page) ≡ b → (b || is_among page pages) ≡ true → (is_among page pages ≡ true → work_on k r pages < work_on h r pages) → work_on k r (p ∷ pages) < work_on h r (p ∷ pages)
      by true is here rest =
          first-less _ _ _ _
          (subst (λ (n : ℕ). page_work (has_page r n) (is_resident k n) (is_dirty k n) < page_work (has_page r n) (is_resident h n) (is_dirty h n)) (sym (eqb-true p page is)) less)
          (no-more pages)
      by false is among_rest rest = rest-less _ _ _ _ (at-most p) (rest among_rest)

  -- so there is less left
  pub less-left : size_of k ≡ size_of h → 4096 * page < size_of h → work_left k (Some r) < work_left h (Some r)
  less-left size below =
      subst (λ (n : ℕ). work_on k r (pages_of (record { from = 0; to = n })) < work_on h r (pages_of (record { from = 0; to = size_of h }))) (sym size)
      (less-on (pages_of (record { from = 0; to = size_of h })) (page-among page (size_of h) below))

-- a page of the range comes in
module _ (pass page : ℕ) (from_disk : Bool) (h : List Effect) (r : Range) (mapped : is_mapped h ≡ true) where
  pub size-came : size_of (CameIn pass page from_disk ∷ h) ≡ size_of h
  size-came = ap (λ s. s.size) (sizes-came_in pass page from_disk h)

  came : (p : ℕ) → is_resident (CameIn pass page from_disk ∷ h) p ≡ ((page == p) || is_among p (without page (residents h)))
  came p = ap (λ (pages : List ℕ). is_among p pages) (residents-came_in pass page from_disk h mapped)

  apart-in : (p : ℕ) → (page == p) ≡ false → is_resident (CameIn pass page from_disk ∷ h) p ≡ is_resident h p
  apart-in p other =
      came p
      ∙ (ap (λ (b : Bool). b || is_among p (without page (residents h))) other
      ∙ (among-without page p (residents h) ∙ ap (λ (b : Bool). not b && is_resident h p) other))

  pub comes-less : has_page r page ≡ true → is_resident h page ≡ false → 4096 * page < size_of h → work_left (CameIn pass page from_disk ∷ h) (Some r) < work_left h (Some r)
  comes-less has absent below =
      less-left h (CameIn pass page from_disk ∷ h) r page (λ p other. (apart-in p other, is_dirty-came_in pass page from_disk h p))
      (subst (λ (b : Bool). page_work b (is_resident (CameIn pass page from_disk ∷ h) page) (is_dirty (CameIn pass page from_disk ∷ h) page) < page_work b (is_resident h page) (is_dirty h page)) (sym has)
      (one _ _ (came page ∙ or_left (page == page) _ (eq-eqb page page refl)) absent))
      size-came below
    where
      one : (now was : Bool) → now ≡ true → was ≡ false → page_work true now (is_dirty (CameIn pass page from_disk ∷ h) page) < page_work true was (is_dirty h page)
      one true false now was = omega arith
      one true true now was = absurd (cc)
      one false was now is_was = absurd (cc)

-- a page that is none of it goes out
module _ (pass page : ℕ) (h : List Effect) (r : Range) where
  pub size-out : size_of (WentOut pass page ∷ h) ≡ size_of h
  size-out = ap (λ s. s.size) (sizes-went_out pass page h)

  left-out : (p : ℕ) → is_resident (WentOut pass page ∷ h) p ≡ (not (page == p) && is_resident h p)
  left-out p = ap (λ (pages : List ℕ). is_among p pages) (residents-went_out pass page h) ∙ among-without page p (residents h)

  pub goes-less : has_page r page ≡ false → is_resident h page ≡ true → 4096 * page < size_of h → work_left (WentOut pass page ∷ h) (Some r) < work_left h (Some r)
  goes-less has resident below =
      less-left h (WentOut pass page ∷ h) r page
      (λ p other. (left-out p ∙ ap (λ (b : Bool). not b && is_resident h p) other, is_dirty-went_out pass page h p))
      (subst (λ (b : Bool). page_work b (is_resident (WentOut pass page ∷ h) page) (is_dirty (WentOut pass page ∷ h) page) < page_work b (is_resident h page) (is_dirty h page)) (sym has)
      (one _ _ _ _ (left-out page ∙ ap (λ (b : Bool). not b && is_resident h page) (eq-eqb page page refl)) resident (is_dirty-went_out pass page h page)))
      size-out below
    where
      one : (now was dirty_now dirty_was : Bool) → now ≡ false → was ≡ true → dirty_now ≡ dirty_was → page_work false now dirty_now < page_work false was dirty_was
      one false true true true now was same = omega arith
      one false true false false now was same = omega arith
      one false true true false now was same = absurd (cc)
      one false true false true now was same = absurd (cc)
      one false false x y now was same = absurd (cc)
      one true was x y now is_was same = absurd (cc)

-- a page that is none of it is written
module _ (pass page : ℕ) (how : End) (h : List Effect) (r : Range) (good : ended_ok how ≡ true) (mapped : is_mapped (Ended pass page how ∷ Began pass page ∷ h) ≡ true) where
  pub size-written : size_of (Ended pass page how ∷ Began pass page ∷ h) ≡ size_of h
  size-written = ap (λ s. s.size) (sizes-ended pass page how (Began pass page ∷ h) ∙ sizes-began pass page h)

  stays : (p : ℕ) → is_resident (Ended pass page how ∷ Began pass page ∷ h) p ≡ is_resident h p
  stays p = ap (λ (pages : List ℕ). is_among p pages) (residents-ended pass page how (Began pass page ∷ h) mapped ∙ residents-began pass page h)

  pub writes-less : has_page r page ≡ false → is_dirty h page ≡ true → 4096 * page < size_of h → work_left (Ended pass page how ∷ Began pass page ∷ h) (Some r) < work_left h (Some r)
  writes-less has dirty below =
      less-left h (Ended pass page how ∷ Began pass page ∷ h) r page
      (λ p other. (stays p, is_dirty-ended_other pass page how (Began pass page ∷ h) p other ∙ is_dirty-began pass page h p))
      (subst (λ (b : Bool). page_work b (is_resident (Ended pass page how ∷ Began pass page ∷ h) page) (is_dirty (Ended pass page how ∷ Began pass page ∷ h) page) < page_work b (is_resident h page) (is_dirty h page)) (sym has)
      (one _ _ _ _ (stays page) (ap (λ l. not (is_empty l)) (unwritten-transferred pass how h page good)) dirty))
      size-written below
    where
      one : (now was dirty_now dirty_was : Bool) → now ≡ was → dirty_now ≡ false → dirty_was ≡ true → page_work false now dirty_now < page_work false was dirty_was
      one true true false true same now was = omega arith
      one false false false true same now was = omega arith
      one true false x y same now was = absurd (cc)
      one false true x y same now was = absurd (cc)
      one true true true y same now was = absurd (cc)
      one false false true y same now was = absurd (cc)
      one true true false false same now was = absurd (cc)
      one false false false false same now was = absurd (cc)
