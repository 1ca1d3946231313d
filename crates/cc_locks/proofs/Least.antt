-- The least number of what is picked.
use Rattle.std.proofs.Common.{◌≡◌, ℕ, ◌<◌, ◌≤◌, min, Bool, true, false, cond, Option, None, Some, IsSomeAnd, List, [], ◌∷◌, ◌⊎◌, inl, inr, map, refl, sym, ◌∙◌, ap, subst, arith}
use Rattle.std.proofs.lemmas.Bool.{cases_lt}
use Rattle.std.specs.List.{Contains, filter, fold, reduce}
use Rattle.cc_locks.specs.Place.{lesser_id}
use Rattle.cc_locks.proofs.Members.{Contains-here, Contains-there, Contains-cases, Contains-nil}

pub record IsLeast {X : Type 0} (picks : X → Bool) (id : X → ℕ) (Has : X → Type 0) (found : Option ℕ) : Type 0 where
  pub one : (n : ℕ) → found ≡ Some n → (x : X) × Has x × (picks x ≡ true) × (id x ≡ n)
  pub least : (x : X) → Has x → picks x ≡ true → IsSomeAnd found (λ n. n ≤ id x)

pub lesser-one : (a b : Option ℕ) (n : ℕ) → lesser_id a b ≡ Some n → (a ≡ Some n) ⊎ (b ≡ Some n)
lesser-one None b n h = inr h
lesser-one (Some x) None n h = inl h
lesser-one (Some x) (Some y) n h = by (cases x y)
  where
    cases : (x y : ℕ) → (min x y ≡ x) ⊎ (min x y ≡ y)
    cases x y = elim (cases_lt x y) [ inl lt ↦ inl (omega arith) | inr ge ↦ inr (omega arith) ]

    by : (min x y ≡ x) ⊎ (min x y ≡ y) → (Some x ≡ Some n) ⊎ (Some y ≡ Some n)
    by (inl e) = inl (ap (λ k. Some k) (sym e) ∙ h)
    by (inr e) = inr (ap (λ k. Some k) (sym e) ∙ h)

pub lesser-left : (a b : Option ℕ) (m : ℕ) → IsSomeAnd a (λ n. n ≤ m) → IsSomeAnd (lesser_id a b) (λ n. n ≤ m)
lesser-left None b m h = absurd h
lesser-left (Some x) None m h = h
lesser-left (Some x) (Some y) m h = omega arith

pub lesser-right : (a b : Option ℕ) (m : ℕ) → IsSomeAnd b (λ n. n ≤ m) → IsSomeAnd (lesser_id a b) (λ n. n ≤ m)
lesser-right None b m h = h
lesser-right (Some x) None m h = absurd h
lesser-right (Some x) (Some y) m h = omega arith

fold-shift : (x y : ℕ) (ys : List ℕ) → fold min (min x y) ys ≡ min x (fold min y ys)
fold-shift x y [] = refl
fold-shift x y (z ∷ ys) = ap (λ k. fold min k ys) (assoc x y z) ∙ fold-shift x (min y z) ys
  where
    assoc : (x y z : ℕ) → min (min x y) z ≡ min x (min y z)
    assoc x y z = omega arith

pub reduce-cons : (x : ℕ) (xs : List ℕ) → reduce min (x ∷ xs) ≡ lesser_id (Some x) (reduce min xs)
reduce-cons x [] = refl
reduce-cons x (y ∷ ys) = ap (λ k. Some k) (fold-shift x y ys)

module _ {X : Type 0} (picks : X → Bool) (id : X → ℕ) where
  -- what is picked of a list
  pub IsLeast-list : (xs : List X) → IsLeast picks id (Contains xs) (reduce min (map id (filter picks xs)))
  IsLeast-list [] = record { one = λ n h. absurd (cc); least = λ x has pick. absurd (Contains-nil x has) }
  IsLeast-list (x ∷ xs) = go (picks x) refl (IsLeast-list xs)
    where
      go : (b : Bool) → picks x ≡ b → IsLeast picks id (Contains xs) (reduce min (map id (filter picks xs)))
          → IsLeast picks id (Contains (x ∷ xs)) (reduce min (map id (cond b (x ∷ filter picks xs) (filter picks xs))))
      go true e rest = subst (IsLeast picks id (Contains (x ∷ xs))) (sym (reduce-cons (id x) (map id (filter picks xs)))) (record {
        one = λ n h. elim (lesser-one (Some (id x)) (reduce min (map id (filter picks xs))) n h) [
          | inl here ↦ (x, Contains-here x x xs refl, e, cc)
          | inr there ↦ let r = rest.one n there in (r.0, Contains-there x r.0 xs r.1, r.2, r.3)
        ];
        least = λ y has pick. elim (Contains-cases x y xs has) [
          | inl same ↦ lesser-left (Some (id x)) (reduce min (map id (filter picks xs))) (id y) (subst (λ (z : X). id x ≤ id z) same (omega arith))
          | inr more ↦ lesser-right (Some (id x)) (reduce min (map id (filter picks xs))) (id y) (rest.least y more pick)
        ];
      })
      go false e rest = record {
        one = λ n h. let r = rest.one n h in (r.0, Contains-there x r.0 xs r.1, r.2, r.3);
        least = λ y has pick. elim (Contains-cases x y xs has) [
          | inl same ↦ let no : picks y ≡ false = sym (ap picks same) ∙ e in absurd (cc)
          | inr more ↦ rest.least y more pick
        ];
      }

  -- there is one at most
  pub IsLeast-unique : (Has : X → Type 0) (a b : Option ℕ) → IsLeast picks id Has a → IsLeast picks id Has b → a ≡ b
  IsLeast-unique Has None None p q = refl
  IsLeast-unique Has None (Some m) p q = let x = q.one m refl in absurd (p.least x.0 x.1 x.2)
  IsLeast-unique Has (Some n) None p q = let x = p.one n refl in absurd (q.least x.0 x.1 x.2)
  IsLeast-unique Has (Some n) (Some m) p q =
      let x = p.one n refl in
      let y = q.one m refl in
      let le : n ≤ id y.0 = p.least y.0 y.1 y.2 in
      let ge : m ≤ id x.0 = q.least x.0 x.1 x.2 in
      let same : n ≡ m = omega (arith, le, ge, x.3, y.3) in
      ap (λ k. Some k) same
