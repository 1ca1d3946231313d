-- Ranges of pages: which pages they have, and how many of them have one, as a range is set, put at the end or removed.
use Rattle.std.specs.Prelude.{◌≡◌, ℕ, ◌+◌, ◌-◌, ◌<◌, ◌≤◌, ◌⊎◌, Bool, true, false, not, ◌==◌, ◌&&◌, ◌||◌, nat_lt, nat_le, List, [], ◌∷◌, length, None, Some, refl, if◌then◌else◌}
use Rattle.std.specs.List.{position, position_or_len}
use Rattle.std.proofs.Common.{ap, sym, subst, ◌∙◌, arith, get_or, ◌≢◌, inl, inr}
use Rattle.std.proofs.lemmas.Bool.{lt-ltb, le-ltb, ltb-true, ltb-false, le-leb, leb-true, and_parts, and_from, eqb-true, eqb-false, both_ways, false_from_ne_true, cases_lt}
use Rattle.std.proofs.lemmas.Bool.Decides.{leb_tells, eqb_tells}
use Rattle.std.proofs.lemmas.List.Folds.{list_any_at, Any-from_list_any}
use Rattle.std.proofs.lemmas.List.Quantifiers.{position-Some}
use Rattle.std.proofs.lemmas.List.Sums.{sum_by-cons, fails_before_first}
use Rattle.cc_images.specs.PageSet.{is_in_range, is_in_ranges, ends_before, begins_behind, IsRangeOf, ranges_with, one_if, AreDisjoint}
use Rattle.cc_images.specs.declared.page_range.PageRange.{PageRange}

-- whether a page is from a first one to a last one, as a number
abbrev pub within : ℕ → ℕ → ℕ → ℕ
within p first last = one_if (nat_le first p && nat_le p last)

within-tells : (p a b : ℕ) → ((a ≤ p) × (p ≤ b) × (within p a b ≡ 1)) ⊎ (((p < a) × (within p a b ≡ 0)) ⊎ ((b < p) × (within p a b ≡ 0)))
within-tells p a b = go (nat_le a p) (nat_le p b) (leb_tells a p) (leb_tells p b)
  where
    go : (x y : Bool) → ((x ≡ true) × (a ≤ p)) ⊎ ((x ≡ false) × (p < a)) → ((y ≡ true) × (p ≤ b)) ⊎ ((y ≡ false) × (b < p)) → ((a ≤ p) × (p ≤ b) × (one_if (x && y) ≡ 1)) ⊎ (((p < a) × (one_if (x && y) ≡ 0)) ⊎ ((b < p) × (one_if (x && y) ≡ 0)))
    go true true (inl k) (inl l) = inl (k.1, l.1, refl)
    go true true (inl k) (inr l) = absurd (cc (l.0))
    go true true (inr k) l = absurd (cc (k.0))
    go true false k (inl l) = absurd (cc (l.0))
    go true false k (inr l) = inr (inr (l.1, refl))
    go false y (inl k) l = absurd (cc (k.0))
    go false y (inr k) l = inr (inl (k.1, refl))

is-tells : (p page : ℕ) → ((p ≡ page) × (one_if (p == page) ≡ 1)) ⊎ ((p ≢ page) × (one_if (p == page) ≡ 0))
is-tells p page = elim (eqb_tells p page) [ inl k ↦ inl (k.1, ap one_if k.0) | inr k ↦ inr (k.1, ap one_if k.0) ]

-- two ranges and the page between them
pub within-joined : (p page a b c d : ℕ) → a ≤ b → b + 1 ≡ page → page + 1 ≡ c → c ≤ d → within p a d ≡ within p a b + within p c d + one_if (p == page)
within-joined p page a b c d low before behind high = omega (arith, within-tells p a d, within-tells p a b, within-tells p c d, is-tells p page)

-- a range and the page behind it, or before it
pub within-behind : (p page a b : ℕ) → a ≤ b → b + 1 ≡ page → within p a page ≡ within p a b + one_if (p == page)
within-behind p page a b low before = omega (arith, within-tells p a page, within-tells p a b, is-tells p page)

pub within-before : (p page a b : ℕ) → page + 1 ≡ a → a ≤ b → within p page b ≡ within p a b + one_if (p == page)
within-before p page a b behind high = omega (arith, within-tells p page b, within-tells p a b, is-tells p page)

pub within-alone : (p page : ℕ) → within p page page ≡ one_if (p == page)
within-alone p page = omega (arith, within-tells p page page, is-tells p page)

-- whether one of the ranges has a page
pub in-ranges : (p : ℕ) (ranges : List PageRange) → is_in_ranges p ranges ≡ nat_lt 0 (ranges_with p ranges)
in-ranges p [] = refl
in-ranges p (range ∷ ranges) =
    go (is_in_range p range) (in-ranges p ranges) ∙ ap (nat_lt 0) (sym (sum_by-cons (λ r. one_if (is_in_range p r)) range ranges))
  where
    go : (b : Bool) → is_in_ranges p ranges ≡ nat_lt 0 (ranges_with p ranges) → (b || is_in_ranges p ranges) ≡ nat_lt 0 (one_if b + ranges_with p ranges)
    go true before = sym (lt-ltb 0 (1 + ranges_with p ranges) (omega arith))
    go false before = let same : ranges_with p ranges ≡ 0 + ranges_with p ranges = omega arith in before ∙ ap (nat_lt 0) same

-- a range without a page in its middle, at its end, or at its front
pub within-split : (p page a b : ℕ) → a < page → page < b → within p a (page - 1) + within p (page + 1) b + one_if (p == page) ≡ within p a b
within-split p page a b above below = omega (arith, within-tells p a (page - 1), within-tells p (page + 1) b, within-tells p a b, is-tells p page)

pub within-cut_end : (p page a b : ℕ) → a < page → page ≡ b → within p a (page - 1) + one_if (p == page) ≡ within p a b
within-cut_end p page a b above is = omega (arith, within-tells p a (page - 1), within-tells p a b, is-tells p page)

pub within-cut_front : (p page a b : ℕ) → a ≡ page → page < b → within p (page + 1) b + one_if (p == page) ≡ within p a b
within-cut_front p page a b is below = omega (arith, within-tells p (page + 1) b, within-tells p a b, is-tells p page)

pub within-gone : (p page a b : ℕ) → a ≡ page → page ≡ b → one_if (p == page) ≡ within p a b
within-gone p page a b is same = omega (arith, within-tells p a b, is-tells p page)

-- a page that none had is in one more
module _ (page : ℕ) (old new : List PageRange) (more : (p : ℕ) → ranges_with p new ≡ ranges_with p old + one_if (p == page)) where
  pub put-has : (p : ℕ) → is_in_ranges p new ≡ (p == page || is_in_ranges p old)
  put-has p =
      in-ranges p new ∙ (ap (nat_lt 0) (more p) ∙ (go (p == page) ∙ ap (λ b. p == page || b) (sym (in-ranges p old))))
    where
      go : (b : Bool) → nat_lt 0 (ranges_with p old + one_if b) ≡ (b || nat_lt 0 (ranges_with p old))
      go true = lt-ltb 0 (ranges_with p old + 1) (omega arith)
      go false = let same : ranges_with p old + 0 ≡ ranges_with p old = omega arith in ap (nat_lt 0) same

  pub put-disjoint : is_in_ranges page old ≡ false → AreDisjoint old → AreDisjoint new
  put-disjoint is_new disjoint p =
      let none : ranges_with page old ≤ 0 = ltb-false 0 (ranges_with page old) (sym (in-ranges page old) ∙ is_new) in
      let least : ranges_with p old ≤ 1 = disjoint p in
      elim (is-tells p page) [
        | inl k ↦ let same : ranges_with p old ≡ ranges_with page old = ap (λ q. ranges_with q old) k.0 in omega (arith, more p, k.1)
        | inr k ↦ omega (arith, more p, k.1)
      ]

-- a page that is in is put in again
pub put-again : (has : ℕ → Bool) (page : ℕ) → has page ≡ true → (p : ℕ) → has p ≡ (p == page || has p)
put-again has page is p = go (p == page) refl
  where
    go : (b : Bool) → (p == page) ≡ b → has p ≡ (b || has p)
    go true same = ap has (eqb-true p page same) ∙ is
    go false other = refl

-- a page that is not in is taken out
pub taken-again : (has : ℕ → Bool) (page : ℕ) → has page ≡ false → (p : ℕ) → has p ≡ (has p && not (p == page))
taken-again has page out p = go (p == page) refl
  where
    none : (b : Bool) → (b && false) ≡ false
    none true = refl
    none false = refl

    all : (b : Bool) → b ≡ (b && true)
    all true = refl
    all false = refl

    go : (b : Bool) → (p == page) ≡ b → has p ≡ (has p && not b)
    go true same = ap has (eqb-true p page same) ∙ (out ∙ sym (none (has p)))
    go false other = all (has p)

-- a page is in one less
module _ (page : ℕ) (old new : List PageRange) (less : (p : ℕ) → ranges_with p new + one_if (p == page) ≡ ranges_with p old) where
  pub taken-has : AreDisjoint old → (p : ℕ) → is_in_ranges p new ≡ (is_in_ranges p old && not (p == page))
  taken-has disjoint p =
      in-ranges p new ∙ (go (p == page) (less p) (disjoint p) ∙ ap (λ b. b && not (p == page)) (sym (in-ranges p old)))
    where
      none : (b : Bool) → (b && false) ≡ false
      none true = refl
      none false = refl

      all : (b : Bool) → b ≡ (b && true)
      all true = refl
      all false = refl

      go : (b : Bool) → ranges_with p new + one_if b ≡ ranges_with p old → ranges_with p old ≤ 1 → nat_lt 0 (ranges_with p new) ≡ (nat_lt 0 (ranges_with p old) && not b)
      go true is least = le-ltb 0 (ranges_with p new) (omega arith) ∙ sym (none (nat_lt 0 (ranges_with p old)))
      go false is least = let same : ranges_with p new ≡ ranges_with p old = omega arith in ap (nat_lt 0) same ∙ all (nat_lt 0 (ranges_with p old))

  pub taken-disjoint : AreDisjoint old → AreDisjoint new
  taken-disjoint disjoint p = let least : ranges_with p old ≤ 1 = disjoint p in omega (arith, less p)

-- the range at a place has its pages
pub in-at : (p i : ℕ) (ranges : List PageRange) (d : PageRange) → i < length ranges → (get_or ranges i d).first ≤ p → p ≤ (get_or ranges i d).last → is_in_ranges p ranges ≡ true
in-at p i ranges d inside above below =
    list_any_at (is_in_range p) ranges i d inside (and_from (nat_le (get_or ranges i d).first p) (nat_le p (get_or ranges i d).last) (le-leb (get_or ranges i d).first p above) (le-leb p (get_or ranges i d).last below))

no_range : PageRange
no_range = record { first = 0; last = 0; in_order = omega arith }

pub found-there : (page place : ℕ) (ranges : List PageRange) → position (is_in_range page) ranges ≡ Some place → IsRangeOf page place ranges
found-there page place ranges found =
    ((position-Some (is_in_range page) ranges place no_range found).0, λ d. (position-Some (is_in_range page) ranges place d found).1)

-- where no range is found, each fails the test
none-passes : (test : PageRange → Bool) (ranges : List PageRange) → position test ranges ≡ None → (k : ℕ) (d : PageRange) → k < length ranges → test (get_or ranges k d) ≡ false
none-passes test ranges none k d inside =
    let past : length ranges ≤ position_or_len test ranges = at (nat_lt (position_or_len test ranges) (length ranges)) refl none in
    fails_before_first test ranges k d (omega arith)
  where
    at : (b : Bool) → nat_lt (position_or_len test ranges) (length ranges) ≡ b → (if b then Some (position_or_len test ranges) else None) ≡ None → length ranges ≤ position_or_len test ranges
    at true is found = absurd (cc)
    at false is found = ltb-false _ _ is

-- where no range is found, none has the page
pub none-there : (page : ℕ) (ranges : List PageRange) → position (is_in_range page) ranges ≡ None → is_in_ranges page ranges ≡ false
none-there page ranges none = false_from_ne_true (is_in_ranges page ranges) absent
  where
    absent : is_in_ranges page ranges ≡ true → ⊥
    absent is =
        let k = Any-from_list_any (is_in_range page) ranges is in
        both_ways (is_in_range page k.1) (sym (ap (is_in_range page) k.3) ∙ none-passes (is_in_range page) ranges none k.0 k.1 k.2) k.4

-- whether the page before one is in a range, and the page behind it
abbrev pub has_before : List PageRange → ℕ → Bool
has_before ranges page = nat_lt 0 page && is_in_ranges (page - 1) ranges

abbrev pub has_behind : List PageRange → ℕ → Bool
has_behind ranges page = is_in_ranges (page + 1) ranges

module _ (page : ℕ) (ranges : List PageRange) where
  pub before-found : (i : ℕ) (d : PageRange) → position (ends_before page) ranges ≡ Some i → (i < length ranges) × ((get_or ranges i d).last + 1 ≡ page) × (has_before ranges page ≡ true)
  before-found i d found =
      let k = position-Some (ends_before page) ranges i d found in
      let ends : (get_or ranges i d).last + 1 ≡ page = eqb-true _ _ k.1 in
      let order : (get_or ranges i d).first ≤ (get_or ranges i d).last = (get_or ranges i d).in_order in
      (k.0, ends, and_from (nat_lt 0 page) (is_in_ranges (page - 1) ranges) (lt-ltb 0 page (omega arith)) (in-at (page - 1) i ranges d k.0 (omega arith) (omega arith)))

  pub behind-found : (i : ℕ) (d : PageRange) → position (begins_behind page) ranges ≡ Some i → (i < length ranges) × (page + 1 ≡ (get_or ranges i d).first) × (has_behind ranges page ≡ true)
  behind-found i d found =
      let k = position-Some (begins_behind page) ranges i d found in
      let begins : page + 1 ≡ (get_or ranges i d).first = eqb-true _ _ k.1 in
      let order : (get_or ranges i d).first ≤ (get_or ranges i d).last = (get_or ranges i d).in_order in
      (k.0, begins, in-at (page + 1) i ranges d k.0 (omega arith) (omega arith))

  module _ (is_new : is_in_ranges page ranges ≡ false) where
    -- a range that has a page beside one that none has ends or begins there
    out : (i : ℕ) (d : PageRange) → i < length ranges → (get_or ranges i d).first ≤ page → page ≤ (get_or ranges i d).last → ⊥
    out i d inside above below = both_ways (is_in_ranges page ranges) is_new (in-at page i ranges d inside above below)

    pub before-none : position (ends_before page) ranges ≡ None → has_before ranges page ≡ false
    before-none none = false_from_ne_true (has_before ranges page) absent
      where
        absent : has_before ranges page ≡ true → ⊥
        absent is =
            let parts = and_parts (nat_lt 0 page) (is_in_ranges (page - 1) ranges) is in
            let some : 0 < page = ltb-true 0 page parts.0 in
            let k = Any-from_list_any (is_in_range (page - 1)) ranges parts.1 in
            let there = and_parts (nat_le k.1.first (page - 1)) (nat_le (page - 1) k.1.last) k.4 in
            let above : k.1.first ≤ page - 1 = leb-true _ _ there.0 in
            let below : page - 1 ≤ k.1.last = leb-true _ _ there.1 in
            let fails : (k.1.last + 1 == page) ≡ false = sym (ap (ends_before page) k.3) ∙ none-passes (ends_before page) ranges none k.0 k.1 k.2 in
            elim (cases_lt k.1.last page) [
              | inl short ↦ eqb-false (k.1.last + 1) page fails (omega arith)
              | inr long ↦ out k.0 k.1 k.2 (subst (λ (r : PageRange). r.first ≤ page) (sym k.3) (omega arith)) (subst (λ (r : PageRange). page ≤ r.last) (sym k.3) long)
            ]

    pub behind-none : position (begins_behind page) ranges ≡ None → has_behind ranges page ≡ false
    behind-none none = false_from_ne_true (has_behind ranges page) absent
      where
        absent : has_behind ranges page ≡ true → ⊥
        absent is =
            let k = Any-from_list_any (is_in_range (page + 1)) ranges is in
            let there = and_parts (nat_le k.1.first (page + 1)) (nat_le (page + 1) k.1.last) k.4 in
            let above : k.1.first ≤ page + 1 = leb-true _ _ there.0 in
            let below : page + 1 ≤ k.1.last = leb-true _ _ there.1 in
            let fails : (page + 1 == k.1.first) ≡ false = sym (ap (begins_behind page) k.3) ∙ none-passes (begins_behind page) ranges none k.0 k.1 k.2 in
            elim (cases_lt page k.1.first) [
              | inl short ↦ eqb-false (page + 1) k.1.first fails (omega arith)
              | inr long ↦ out k.0 k.1 k.2 (subst (λ (r : PageRange). r.first ≤ page) (sym k.3) long) (subst (λ (r : PageRange). page ≤ r.last) (sym k.3) (omega arith))
            ]
