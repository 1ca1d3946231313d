-- The byte of a page among those of the pages that have grown, which stand in the order of their pages.
use Rattle.std.proofs.Common.{◌≡◌, ℕ, zero, suc, ◌/◌, ◌<◌, ◌≤◌, ◌==◌, Bool, true, false, nat_lt, max, List, [], ◌∷◌, length, get_or, set, remove, inl, inr, refl, ap, sym, subst, if◌then◌else◌, arith}
use Rattle.std.proofs.lemmas.Bool.{cases_lt}
use Rattle.std.proofs.lemmas.Bool.Decides.{nat_tests}
use Rattle.std.proofs.lemmas.List.{get_or_default}
use Rattle.std.specs.List.{AllByRecursion, All}
use Rattle.std.specs.List.Sorted.{IsNonDecreasingBy, IsPartitionPoint}
use Rattle.cc_images.specs.Images.{AscendsByPage}
use Rattle.cc_images.specs.Changes.{IsByteOfPage, grew_past, regrown, without_page, with_written_page}

all-at : {X : Type 0} (P : X → Type 0) (xs : List X) → AllByRecursion P xs → (k : ℕ) (d : X) → k < length xs → P (get_or xs k d)
all-at P [] all k d lt = absurd (omega arith)
all-at P (x ∷ xs) all zero d lt = all.0
all-at P (x ∷ xs) all (suc k) d lt = all-at P xs all.1 k d (omega arith)

pub in-order : (bytes : List ℕ) → AscendsByPage bytes → IsNonDecreasingBy (λ byte. byte / 4096) bytes
in-order [] order i j d le lt = absurd (omega arith)
in-order (x ∷ xs) order zero zero d le lt = omega arith
in-order (x ∷ xs) order zero (suc j) d le lt = let after = all-at (λ later. x / 4096 < later / 4096) xs order.0 j d (omega arith) in omega (arith, after)
in-order (x ∷ xs) order (suc i) zero d le lt = absurd (omega arith)
in-order (x ∷ xs) order (suc i) (suc j) d le lt = in-order xs order.1 i j d (omega arith) (omega arith)

differs-later : (later here page : ℕ) → here < later → (here == page) ≡ true → (later == page) ≡ false
differs-later later here page lt is = grind (arith, nat_tests)

differs-earlier : (earlier here page : ℕ) → earlier < here → (here == page) ≡ true → (earlier == page) ≡ false
differs-earlier earlier here page lt is = grind (arith, nat_tests)

differs-below : (at page : ℕ) → nat_lt at page ≡ true → (at == page) ≡ false
differs-below at page lt = grind (arith, nat_tests)

differs-from : (later here page : ℕ) → nat_lt here page ≡ false → (here == page) ≡ false → here ≤ later → (later == page) ≡ false
differs-from later here page from other le = grind (arith, nat_tests)

-- where each byte is of another page, the page's write changes nothing
others-regrown : (bytes : List ℕ) (page low : ℕ) → All (λ byte. (byte / 4096 == page) ≡ false) bytes → regrown bytes page low ≡ bytes
others-regrown [] page low others = refl
others-regrown (x ∷ xs) page low others =
    let here : (x / 4096 == page) ≡ false = others 0 x (omega arith) in
    rw here (ap (λ ys. x ∷ ys) (others-regrown xs page low (λ k d lt. others (suc k) d (omega arith))))

others-kept : (bytes : List ℕ) (page : ℕ) → All (λ byte. (byte / 4096 == page) ≡ false) bytes → without_page bytes page ≡ bytes
others-kept [] page others = refl
others-kept (x ∷ xs) page others =
    let here : (x / 4096 == page) ≡ false = others 0 x (omega arith) in
    rw here (ap (λ ys. x ∷ ys) (others-kept xs page (λ k d lt. others (suc k) d (omega arith))))

pub others-written : (bytes : List ℕ) (page low valid : ℕ) → All (λ byte. (byte / 4096 == page) ≡ false) bytes → bytes ≡ with_written_page bytes page low valid
others-written bytes page low valid others = go (grew_past page low valid)
  where
    go : (b : Bool) → bytes ≡ (if b then regrown bytes page low else without_page bytes page)
    go true = sym (others-regrown bytes page low others)
    go false = sym (others-kept bytes page others)

-- each byte after one of the page is of another page
later-others : (x : ℕ) (xs : List ℕ) (page : ℕ) → AllByRecursion (λ later. x / 4096 < later / 4096) xs → (x / 4096 == page) ≡ true → All (λ byte. (byte / 4096 == page) ≡ false) xs
later-others x xs page later is k d lt = differs-later (get_or xs k d / 4096) (x / 4096) page (all-at (λ later. x / 4096 < later / 4096) xs later k d lt) is

pub regrown-at : (bytes : List ℕ) (page low place : ℕ) → AscendsByPage bytes → IsByteOfPage bytes page place → set bytes place (max (get_or bytes place 0) low) ≡ regrown bytes page low
regrown-at [] page low place order at = absurd (omega (arith, at.0))
regrown-at (x ∷ xs) page low zero order at =
    let here : (x / 4096 == page) ≡ true = at.1 in
    rw here (ap (λ ys. max x low ∷ ys) (sym (others-regrown xs page low (later-others x xs page order.0 here))))
regrown-at (x ∷ xs) page low (suc place) order at =
    let within : place < length xs = omega (arith, at.0) in
    let here : (x / 4096 == page) ≡ false = differs-earlier (x / 4096) (get_or xs place 0 / 4096) page (all-at (λ later. x / 4096 < later / 4096) xs order.0 place 0 within) at.1 in
    rw here (ap (λ ys. x ∷ ys) (regrown-at xs page low place order.1 (within, at.1)))

pub removed-at : (bytes : List ℕ) (page place : ℕ) → AscendsByPage bytes → IsByteOfPage bytes page place → remove bytes place ≡ without_page bytes page
removed-at [] page place order at = absurd (omega (arith, at.0))
removed-at (x ∷ xs) page zero order at =
    let here : (x / 4096 == page) ≡ true = at.1 in
    rw here (sym (others-kept xs page (later-others x xs page order.0 here)))
removed-at (x ∷ xs) page (suc place) order at =
    let within : place < length xs = omega (arith, at.0) in
    let here : (x / 4096 == page) ≡ false = differs-earlier (x / 4096) (get_or xs place 0 / 4096) page (all-at (λ later. x / 4096 < later / 4096) xs order.0 place 0 within) at.1 in
    rw here (ap (λ ys. x ∷ ys) (removed-at xs page place order.1 (within, at.1)))

-- the place of a binary search
module _ (bytes : List ℕ) (page place : ℕ) (point : IsPartitionPoint (λ byte. nat_lt (byte / 4096) page ≡ true) (λ byte. nat_lt (byte / 4096) page ≡ false) bytes place) where
  pub none-past : place ≡ length bytes → All (λ byte. (byte / 4096 == page) ≡ false) bytes
  none-past past k d lt = differs-below (get_or bytes k d / 4096) page (point.0 k d (omega arith) (omega (arith, past)))

  pub none-other : AscendsByPage bytes → place < length bytes → (get_or bytes place 0 / 4096 == page) ≡ false → All (λ byte. (byte / 4096 == page) ≡ false) bytes
  none-other order lt other k d within = elim (cases_lt k place) [
    | inl before ↦ differs-below (get_or bytes k d / 4096) page (point.0 k d (omega arith) before)
    | inr after ↦
        let here : get_or bytes place d ≡ get_or bytes place 0 = get_or_default bytes place d 0 lt in
        let from : nat_lt (get_or bytes place 0 / 4096) page ≡ false = subst (λ (b : ℕ). nat_lt (b / 4096) page ≡ false) here (point.1 place d (omega arith) lt) in
        differs-from (get_or bytes k d / 4096) (get_or bytes place 0 / 4096) page from other (subst (λ (b : ℕ). b / 4096 ≤ get_or bytes k d / 4096) here (in-order bytes order place k d after within))
  ]
