-- Ascending lists of numbers: two with the same numbers are the same.
use Rattle.std.proofs.Common.{◌≡◌, ℕ, ◌<◌, ◌≤◌, Bool, true, false, ◌||◌, ◌==◌, List, [], ◌∷◌, refl, sym, ◌∙◌, ap, arith}
use Rattle.std.proofs.lemmas.Bool.{eqb-true, eq-eqb, ne_eqb}
use Rattle.cc_model.specs.Numbers.{is_among}
use Rattle.cc_laws.proofs.BlockPages.{Above, Rises}

-- a number is not among greater ones
not_above : (n : ℕ) (ns : List ℕ) → Above n ns → is_among n ns ≡ false
not_above n [] above = refl
not_above n (m ∷ ns) above =
    let less : n < m = above.0 in
    rw (ne_eqb m n (λ e. omega (arith, less, e))) (not_above n ns above.1)

among-first : (n : ℕ) (ns : List ℕ) → is_among n (n ∷ ns) ≡ true
among-first n ns = rw (eq-eqb n n refl) refl

-- a number among those of a list above another is greater
among-above : (k n : ℕ) (ns : List ℕ) → Above k ns → is_among n ns ≡ true → k < n
among-above k n [] above found = absurd (cc)
among-above k n (m ∷ ns) above found = go (m == n) refl found (among-above k n ns above.1)
  where
    go : (t : Bool) → (m == n) ≡ t → (t || is_among n ns) ≡ true → (is_among n ns ≡ true → k < n) → k < n
    go true same found' rest = let first : k < m = above.0 in omega (arith, first, eqb-true m n same)
    go false other found' rest = rest found'

-- the first of a rising list is the least
least : (x y : ℕ) (xs : List ℕ) → Above x xs → is_among y (x ∷ xs) ≡ true → x ≤ y
least x y xs above found = go (x == y) refl found
  where
    go : (t : Bool) → (x == y) ≡ t → (t || is_among y xs) ≡ true → x ≤ y
    go true same found' = omega (arith, eqb-true x y same)
    go false other found' = omega (arith, among-above x y xs above found')

pub rises-equal : (xs ys : List ℕ) → Rises xs → Rises ys → ((p : ℕ) → is_among p xs ≡ is_among p ys) → xs ≡ ys
rises-equal [] [] a b same = refl
rises-equal [] (y ∷ ys) a b same = absurd (cc (same y, among-first y ys))
rises-equal (x ∷ xs) [] a b same = absurd (cc (same x, among-first x xs))
rises-equal (x ∷ xs) (y ∷ ys) a b same =
    let low : x ≤ y = least x y xs a.0 (same y ∙ among-first y ys) in
    let high : y ≤ x = least y x ys b.0 (sym (same x) ∙ among-first x xs) in
    let first : x ≡ y = omega (arith, low, high) in
    ap (λ n. n ∷ xs) first ∙ ap (λ l. y ∷ l) (rises-equal xs ys a.1 b.1 (λ p. rest p (x == p) refl (y == p) refl first))
  where
    rest : (p : ℕ) (t : Bool) → (x == p) ≡ t → (u : Bool) → (y == p) ≡ u → x ≡ y → is_among p xs ≡ is_among p ys
    rest p true is u also first =
        rw (← eqb-true x p is) (not_above x xs a.0 ∙ sym (rw first (not_above y ys b.0)))
    rest p false is true also first = absurd (cc)
    rest p false is false also first =
        let both : (x == p || is_among p xs) ≡ (y == p || is_among p ys) = same p in
        rw (is, also) at both
