-- The place of an id among holds in the order of their ids, by the place of a binary search.
use Rattle.std.proofs.Common.{◌≡◌, ℕ, ◌<◌, ◌≤◌, Bool, true, false, nat_lt, nat_le, List, [], ◌∷◌, length, get_or, inl, inr, refl, sym, subst, ◌∙◌, arith}
use Rattle.std.proofs.lemmas.Bool.{cases_lt}
use Rattle.std.proofs.lemmas.Bool.Decides.{nat_tests}
use Rattle.std.proofs.lemmas.List.{get_or_default}
use Rattle.std.proofs.lemmas.List.Sums.{position_or_len_is}
use Rattle.std.specs.List.{position_or_len}
use Rattle.std.specs.List.Sorted.{IsNonDecreasingBy, IsPartitionPoint}
use Rattle.cc_holds.specs.Holds.{has_id}
use Rattle.cc_holds.specs.declared.holds.KeptHold.{KeptHold}

-- the holds before this place have lesser ids, and the others don't
abbrev pub StartsAt : List KeptHold → ℕ → ℕ → Type 0
StartsAt holds id place = IsPartitionPoint (λ h. nat_lt h.row.id id ≡ true) (λ h. nat_lt h.row.id id ≡ false) holds place

-- the holds before this place have ids up to this one, and the others have greater ones
abbrev pub EndsAt : List KeptHold → ℕ → ℕ → Type 0
EndsAt holds id place = IsPartitionPoint (λ h. nat_le h.row.id id ≡ true) (λ h. nat_le h.row.id id ≡ false) holds place

lesser-other : (h : KeptHold) (id : ℕ) → nat_lt h.row.id id ≡ true → has_id id h ≡ false
lesser-other h id lt = grind (arith, nat_tests)

greater-other : (h later : KeptHold) (id : ℕ) → nat_lt h.row.id id ≡ false → has_id id h ≡ false → h.row.id ≤ later.row.id → has_id id later ≡ false
greater-other h later id from other le = grind (arith, nat_tests)

up_to-before : (h : KeptHold) (id : ℕ) → nat_le h.row.id id ≡ true → nat_lt id h.row.id ≡ false
up_to-before h id le = grind (arith, nat_tests)

past-after : (h : KeptHold) (id : ℕ) → nat_le h.row.id id ≡ false → nat_lt id h.row.id ≡ true
past-after h id gt = grind (arith, nat_tests)

-- no hold passes
none-passes : (passes : KeptHold → Bool) (holds : List KeptHold) → ((k : ℕ) (d : KeptHold) → k < length holds → passes (get_or holds k d) ≡ false) → length holds ≡ position_or_len passes holds
none-passes passes [] fails = refl
none-passes passes (x ∷ xs) fails =
    sym (position_or_len_is passes (x ∷ xs) (length (x ∷ xs)) x (omega arith) (λ k before. fails k x before) (λ h. absurd (omega arith)))

pub place-found : (holds : List KeptHold) (id place : ℕ) (h : KeptHold) → StartsAt holds id place → h ≡ get_or holds place h → place < length holds → has_id id h ≡ true → place ≡ position_or_len (has_id id) holds
place-found holds id place h point at lt same =
    sym (position_or_len_is (has_id id) holds place h (omega arith) (λ k before. lesser-other (get_or holds k h) id (point.0 k h (omega arith) before))
    (λ _. subst (λ (x : KeptHold). has_id id x ≡ true) at same))

-- the hold at the place has a greater id
pub place-other : (holds : List KeptHold) (id place : ℕ) (h : KeptHold) → IsNonDecreasingBy (λ x. x.row.id) holds → StartsAt holds id place → h ≡ get_or holds place h → place < length holds → has_id id h ≡ false → length holds ≡ position_or_len (has_id id) holds
place-other holds id place h order point at lt other = none-passes (has_id id) holds fails
  where
    here : nat_lt h.row.id id ≡ false
    here = subst (λ (x : KeptHold). nat_lt x.row.id id ≡ false) (sym at) (point.1 place h (omega arith) lt)

    fails : (k : ℕ) (d : KeptHold) → k < length holds → has_id id (get_or holds k d) ≡ false
    fails k d within = elim (cases_lt k place) [
      | inl before ↦ lesser-other (get_or holds k d) id (point.0 k d (omega arith) before)
      | inr after ↦ greater-other h (get_or holds k d) id here other (subst (λ (x : KeptHold). x.row.id ≤ (get_or holds k d).row.id) (get_or_default holds place d h lt ∙ sym at) (order place k d after within))
    ]

-- each hold has a lesser id
pub place-past : (holds : List KeptHold) (id place : ℕ) → StartsAt holds id place → place ≡ length holds → place ≡ position_or_len (has_id id) holds
place-past holds id place point past = past ∙ none-passes (has_id id) holds (λ k d lt. lesser-other (get_or holds k d) id (point.0 k d (omega arith) (omega (arith, past))))

pub place-after : (holds : List KeptHold) (id place : ℕ) → EndsAt holds id place → place ≤ length holds → place ≡ position_or_len (λ h. nat_lt id h.row.id) holds
place-after [] id place point le = let none : place ≡ 0 = omega arith in none
place-after (x ∷ xs) id place point le =
    sym (position_or_len_is (λ h. nat_lt id h.row.id) (x ∷ xs) place x le (λ k before. up_to-before (get_or (x ∷ xs) k x) id (point.0 k x (omega arith) before))
    (λ lt. past-after (get_or (x ∷ xs) place x) id (point.1 place x (omega arith) lt)))
