-- Two lists, place by place, and lists from the back.
use Rattle.std.specs.Prelude.{◌≡◌, suc, Bool, true, false, List, [], ◌∷◌, ◌++◌, length, map, reverse, cond, refl}
use Rattle.std.proofs.Common.{ap, sym, ◌∙◌}
use Rattle.std.proofs.lemmas.List.{reverse-append}
use Rattle.std.proofs.lemmas.List.Sorted.{IsPermutation-reverse, list_any-IsPermutation}
use Rattle.std.specs.List.{AllZip, filter, list_any}

pub reverse-onto : {A : Type 0} (x : A) (xs : List A) → reverse (x ∷ xs) ≡ reverse xs ++ x ∷ []
reverse-onto x xs = reverse-append (x ∷ []) xs

map-onto : {A B : Type 0} (f : A → B) (xs : List A) (x : A) → map f (xs ++ x ∷ []) ≡ map f xs ++ f x ∷ []
map-onto f [] x = refl
map-onto f (y ∷ xs) x = ap (λ ys. f y ∷ ys) (map-onto f xs x)

pub reverse-mapped : {A B : Type 0} (f : A → B) (xs : List A) → reverse (map f xs) ≡ map f (reverse xs)
reverse-mapped f [] = refl
reverse-mapped f (x ∷ xs) =
    reverse-onto (f x) (map f xs)
    ∙ (ap (λ ys. ys ++ f x ∷ []) (reverse-mapped f xs)
    ∙ (sym (map-onto f (reverse xs) x) ∙ ap (map f) (sym (reverse-onto x xs))))

filter-onto : {A : Type 0} (kept : A → Bool) (xs : List A) (x : A) → filter kept (xs ++ x ∷ []) ≡ filter kept xs ++ filter kept (x ∷ [])
filter-onto kept [] x = refl
filter-onto kept (y ∷ xs) x = go (kept y) (filter-onto kept xs x)
  where
    go : (b : Bool) → filter kept (xs ++ x ∷ []) ≡ filter kept xs ++ filter kept (x ∷ []) → cond b (y ∷ filter kept (xs ++ x ∷ [])) (filter kept (xs ++ x ∷ [])) ≡ cond b (y ∷ filter kept xs) (filter kept xs) ++ filter kept (x ∷ [])
    go true rest = ap (λ ys. y ∷ ys) rest
    go false rest = rest

pub reverse-filtered : {A : Type 0} (kept : A → Bool) (xs : List A) → reverse (filter kept xs) ≡ filter kept (reverse xs)
reverse-filtered kept [] = refl
reverse-filtered kept (x ∷ xs) =
    go (kept x) (reverse-filtered kept xs)
    ∙ (sym (filter-onto kept (reverse xs) x) ∙ ap (filter kept) (sym (reverse-onto x xs)))
  where
    go : (b : Bool) → reverse (filter kept xs) ≡ filter kept (reverse xs) → reverse (cond b (x ∷ filter kept xs) (filter kept xs)) ≡ filter kept (reverse xs) ++ cond b (x ∷ []) []
    go true rest = reverse-onto x (filter kept xs) ∙ ap (λ ys. ys ++ x ∷ []) rest
    go false rest = rest ∙ sym (append-none (filter kept (reverse xs)))
      where
        append-none : {B : Type 0} (ys : List B) → ys ++ [] ≡ ys
        append-none [] = refl
        append-none (y ∷ ys) = ap (λ zs. y ∷ zs) (append-none ys)

pub any-reversed : {A : Type 0} (test : A → Bool) (xs : List A) → list_any test (reverse xs) ≡ list_any test xs
any-reversed test xs = sym (list_any-IsPermutation test xs (reverse xs) (IsPermutation-reverse xs))

module _ {A B : Type 0} (R : A → B → Type 0) where
  pub zip-onto : (xs : List A) (ys : List B) (x : A) (y : B) → AllZip R xs ys → R x y → AllZip R (xs ++ x ∷ []) (ys ++ y ∷ [])
  zip-onto [] [] x y all r = (r, tt)
  zip-onto [] (b ∷ ys) x y all r = absurd all
  zip-onto (a ∷ xs) [] x y all r = absurd all
  zip-onto (a ∷ xs) (b ∷ ys) x y all r = (all.0, zip-onto xs ys x y all.1 r)

  pub zip-mapped : (f : A → A) (g : B → B) → ((x : A) (y : B) → R x y → R (f x) (g y)) → (xs : List A) (ys : List B) → AllZip R xs ys → AllZip R (map f xs) (map g ys)
  zip-mapped f g keeps [] [] all = tt
  zip-mapped f g keeps [] (y ∷ ys) all = absurd all
  zip-mapped f g keeps (x ∷ xs) [] all = absurd all
  zip-mapped f g keeps (x ∷ xs) (y ∷ ys) all = (keeps x y all.0, zip-mapped f g keeps xs ys all.1)

  pub zip-filtered : (p : A → Bool) (q : B → Bool) → ((x : A) (y : B) → R x y → q y ≡ p x) → (xs : List A) (ys : List B) → AllZip R xs ys → AllZip R (filter p xs) (filter q ys)
  zip-filtered p q same [] [] all = tt
  zip-filtered p q same [] (y ∷ ys) all = absurd all
  zip-filtered p q same (x ∷ xs) [] all = absurd all
  zip-filtered p q same (x ∷ xs) (y ∷ ys) all = rw (same x y all.0) (go (p x) (zip-filtered p q same xs ys all.1))
    where
      go : (b : Bool) → AllZip R (filter p xs) (filter q ys) → AllZip R (cond b (x ∷ filter p xs) (filter p xs)) (cond b (y ∷ filter q ys) (filter q ys))
      go true rest = (all.0, rest)
      go false rest = rest

  pub zip-any : (p : A → Bool) (q : B → Bool) → ((x : A) (y : B) → R x y → q y ≡ p x) → (xs : List A) (ys : List B) → AllZip R xs ys → list_any q ys ≡ list_any p xs
  zip-any p q same [] [] all = refl
  zip-any p q same [] (y ∷ ys) all = absurd all
  zip-any p q same (x ∷ xs) [] all = absurd all
  zip-any p q same (x ∷ xs) (y ∷ ys) all = rw (same x y all.0, zip-any p q same xs ys all.1) refl

  pub zip-length : (xs : List A) (ys : List B) → AllZip R xs ys → length ys ≡ length xs
  zip-length [] [] all = refl
  zip-length [] (y ∷ ys) all = absurd all
  zip-length (x ∷ xs) [] all = absurd all
  zip-length (x ∷ xs) (y ∷ ys) all = ap suc (zip-length xs ys all.1)
