-- Rows that are filled, and emptied.
use Rattle.std.specs.Prelude.{◌≡◌, ◌⊎◌, ℕ, zero, suc, ◌+◌, List, [], ◌∷◌, ◌++◌, length, map, reverse, slice_get}
use Rattle.std.specs.declared.option.Option.TheVariants.{Some, None}
use Rattle.std.proofs.Common.{refl, sym, subst, ap, ◌∙◌, append_assoc, inl, inr, ⊎_elim}
use Rattle.std.proofs.lemmas.List.{append-nil, length-append, map-append, reverse-append}
use Rattle.cc_world.specs.World.{AreAt}

-- nothing is at no place
pub none-at : {A : Type 0} (IsAt : ℕ → A → Type 0) (things : List A) → things ≡ [] → AreAt 0 IsAt things
none-at {A} IsAt things empty = subst (λ (xs : List A). AreAt 0 IsAt xs) (sym empty) (record { counted = refl; each = λ n a is. absurd (nowhere a is) })
  where
    nowhere : (a : A) → None ≡ Some a → ⊥
    nowhere a is = absurd (cc)

get-pushed : {A : Type 0} (xs : List A) (y : A) (n : ℕ) → (slice_get (xs ++ y ∷ []) n ≡ slice_get xs n) ⊎ ((n ≡ length xs) × (slice_get (xs ++ y ∷ []) n ≡ Some y))
get-pushed [] y zero = inr (refl, refl)
get-pushed [] y (suc n) = inl refl
get-pushed (x ∷ xs) y zero = inl refl
get-pushed (x ∷ xs) y (suc n) = ⊎_elim (λ same. inl same) (λ last. inr (ap suc last.0, last.1)) (get-pushed xs y n)

-- one thing more is at its place
pub pushed-at : {A : Type 0} {IsAt : ℕ → A → Type 0} (count next : ℕ) (things : List A) (a : A) → next ≡ count + 1 → IsAt count a → AreAt count IsAt things → AreAt next IsAt (things ++ a ∷ [])
pushed-at {A} {IsAt} count next things a more is_at are = record {
  counted = length-append things (a ∷ []) ∙ (ap (λ (n : ℕ). n + 1) are.counted ∙ sym more);
  each = λ n b is. ⊎_elim (λ same. are.each n b (sym same ∙ is))
      (λ last. subst (λ (k : ℕ). IsAt k b) (sym (last.0 ∙ are.counted)) (subst (λ (x : A). IsAt count x) (one a b (sym last.1 ∙ is)) is_at)) (get-pushed things a n);
}
  where
    one : (a b : A) → Some a ≡ Some b → a ≡ b
    one a b is = cc

-- What has a row still, and what moved out of it, the last one first, are what the row was.
pub out-begun : {A P : Type 0} (f : A → P) (rows : List A) (out : List P) → out ≡ [] → map f rows ++ reverse out ≡ map f rows
out-begun {A} {P} f rows out empty = subst (λ (xs : List P). map f rows ++ reverse xs ≡ map f rows) (sym empty) (append-nil (map f rows))

pub out-next : {A P : Type 0} (f : A → P) (rows rest : List A) (x : A) (out all : List P) → rows ≡ rest ++ x ∷ [] → map f rows ++ reverse out ≡ all → map f rest ++ reverse (out ++ f x ∷ []) ≡ all
out-next f rows rest x out all is moved =
    ap (λ ys. map f rest ++ ys) (reverse-append out (f x ∷ []))
    ∙ (sym (append_assoc (map f rest) (f x ∷ []) (reverse out))
    ∙ (ap (λ ys. ys ++ reverse out) (sym (ap (map f) is ∙ map-append f rest (x ∷ []))) ∙ moved))

pub out-ended : {A P : Type 0} (f : A → P) (rows : List A) (out all : List P) → rows ≡ [] → map f rows ++ reverse out ≡ all → reverse out ≡ all
out-ended {A} {P} f rows out all empty moved = subst (λ (xs : List A). map f xs ++ reverse out ≡ all) empty moved
