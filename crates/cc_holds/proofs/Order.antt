-- Holds in the order of their ids.
use Rattle.std.proofs.Common.{◌≡◌, ℕ, ◌+◌, ◌<◌, ◌≤◌, Bool, true, false, List, Option, None, Some, length, get_or, set, remove, inl, inr, refl, ap, ◌∙◌, sym, subst, nat_lt, insert, arith}
use Rattle.std.proofs.lemmas.Bool.{cases_lt}
use Rattle.std.proofs.lemmas.Option.{slice_get_within, slice_get-get_or}
use Rattle.std.proofs.lemmas.List.{length-set, get_or-set_same, get_or-set_other, get_or_default}
use Rattle.std.proofs.lemmas.List.Edits.{length-remove, get_or-remove_below, get_or-remove_above}
use Rattle.std.proofs.lemmas.List.Folds.{find_at}
use Rattle.std.proofs.lemmas.List.Sums.{fails_before_first, passes_at_first}
use Rattle.std.proofs.lemmas.List.Sorted.{IsNonDecreasingBy-insert}
use Rattle.std.proofs.lemmas.Bool.Decides.{nat_tests}
use Rattle.std.specs.List.{find, slice_get, position_or_len}
use Rattle.std.specs.List.Sorted.{IsNonDecreasingBy}
use Rattle.std.specs.Option.{option_map}
use Rattle.cc_holds.specs.Holds.{first_id, IsLeastHold}
use Rattle.cc_holds.specs.declared.holds.KeptHold.{KeptHold}

abbrev pub InOrder : List KeptHold → Type 0
InOrder holds = IsNonDecreasingBy (λ h. h.row.id) holds

found-least : (passes : KeptHold → Bool) (holds : List KeptHold) (found : Option KeptHold) → InOrder holds → find passes holds ≡ found
    → IsLeastHold passes holds (option_map (λ h. h.row.id) found)
found-least passes holds None order e = tt
found-least passes holds (Some h) order e = λ k d lt pass.
    let i = position_or_len passes holds in
    let at : slice_get holds i ≡ Some h = sym (find_at passes holds) ∙ e in
    let within : i < length holds = slice_get_within holds i h at in
    let same : Some (get_or holds i d) ≡ Some h = sym (slice_get-get_or holds i d within) ∙ at in
    elim (cases_lt k i) [
      | inl before ↦ absurd (cc (fails_before_first passes holds k d before, pass))
      | inr after ↦ let eq : get_or holds i d ≡ h = cc in subst (λ (x : KeptHold). x.row.id ≤ (get_or holds k d).row.id) eq (order i k d after lt)
    ]

-- the first hold that passes is the one of the least id
pub first_id-least : (passes : KeptHold → Bool) (holds : List KeptHold) → InOrder holds → IsLeastHold passes holds (first_id passes holds)
first_id-least passes holds order = found-least passes holds (find passes holds) order refl

-- the same of an answer that is known to be that id
pub IsLeast-first : (passes : KeptHold → Bool) (holds : List KeptHold) (answer : Option ℕ) → answer ≡ first_id passes holds → InOrder holds → IsLeastHold passes holds answer
IsLeast-first passes holds answer e order = subst (IsLeastHold passes holds) (sym e) (first_id-least passes holds order)

-- a hold that goes in before the first of a greater id
pub InOrder-insert : (holds : List KeptHold) (h : KeptHold) (place : ℕ) → place ≡ position_or_len (λ x. nat_lt h.row.id x.row.id) holds → place ≤ length holds
    → InOrder holds → InOrder (insert holds place h)
InOrder-insert holds h place at le order =
    let greater : KeptHold → Bool = λ x. nat_lt h.row.id x.row.id in
    IsNonDecreasingBy-insert (λ x. x.row.id) holds place h order le
    (λ k d before. let fails : greater (get_or holds k d) ≡ false = fails_before_first greater holds k d (omega arith) in grind (arith, nat_tests))
    (λ k d after lt.
    let passes : greater (get_or holds (position_or_len greater holds) d) ≡ true = passes_at_first greater holds d (omega arith) in
    let first : h.row.id < (get_or holds (position_or_len greater holds) d).row.id = grind (arith, nat_tests) in
    let later = order (position_or_len greater holds) k d (omega arith) lt in
    omega (arith, later))

no-more : (x y u v : KeptHold) → x ≡ u → y ≡ v → u.row.id ≤ v.row.id → x.row.id ≤ y.row.id
no-more x y u v ex ey le = subst (λ (h : KeptHold). h.row.id ≤ y.row.id) (sym ex) (subst (λ (h : KeptHold). u.row.id ≤ h.row.id) (sym ey) le)

pub InOrder-remove : (holds : List KeptHold) (place : ℕ) → place < length holds → InOrder holds → InOrder (remove holds place)
InOrder-remove holds place within order i j d le later = elim (cases_lt j place) [
  | inl jb ↦ no-more _ _ _ _ (below i (omega arith)) (below j jb) (order i j d le (omega arith))
  | inr ja ↦ elim (cases_lt i place) [
    | inl ib ↦ no-more _ _ _ _ (below i ib) (above j (omega arith)) (order i (j + 1) d (omega arith) (omega (arith, short)))
    | inr ia ↦ no-more _ _ _ _ (above i (omega arith)) (above j (omega arith)) (order (i + 1) (j + 1) d (omega arith) (omega (arith, short)))
  ]
]
  where
    short : length (remove holds place) + 1 ≡ length holds
    short = length-remove holds place within

    below : (k : ℕ) → k < place → get_or (remove holds place) k d ≡ get_or holds k d
    below k lt = get_or-remove_below holds place d k lt within

    above : (k : ℕ) → place ≤ k → get_or (remove holds place) k d ≡ get_or holds (k + 1) d
    above k ge = get_or-remove_above holds place d k ge within

-- a changed hold keeps its id
pub InOrder-set : (holds : List KeptHold) (place : ℕ) (h new : KeptHold) → place < length holds → h ≡ get_or holds place h → new.row.id ≡ h.row.id → InOrder holds → InOrder (set holds place new)
InOrder-set holds place h new within at same order i j d le later =
    let n = length-set holds place new in
    let before = order i j d le (omega (arith, n)) in
    omega (arith, before, id-at i, id-at j)
  where
    id-at : (k : ℕ) → (get_or (set holds place new) k d).row.id ≡ (get_or holds k d).row.id
    id-at k = elim (cases_lt k place) [
      | inl lt ↦ ap (λ (x : KeptHold). x.row.id) (get_or-set_other holds place k new d (λ e. absurd (omega (arith, e))))
      | inr ge ↦ elim (cases_lt place k) [
        | inl gt ↦ ap (λ (x : KeptHold). x.row.id) (get_or-set_other holds place k new d (λ e. absurd (omega (arith, e))))
        | inr le ↦
            let is : place ≡ k = omega arith in
            subst (λ m. (get_or (set holds place new) m d).row.id ≡ (get_or holds m d).row.id) is
            (ap (λ (x : KeptHold). x.row.id) (get_or-set_same holds place new d within)
            ∙ (same ∙ ap (λ (x : KeptHold). x.row.id) (at ∙ get_or_default holds place h d within)))
      ]
    ]
