-- Elements of lists that a filter or a map makes.
use Rattle.std.proofs.Common.{◌≡◌, ℕ, zero, suc, ◌<◌, Bool, true, false, cond, ◌||◌, List, [], ◌∷◌, ◌⊎◌, inl, inr, length, get_or, refl, sym, ◌∙◌, ap, arith}
use Rattle.std.specs.List.{Contains, filter, list_any}

module _ {X : Type 0} where
  pub Contains-here : (y x : X) (xs : List X) → y ≡ x → Contains (y ∷ xs) x
  Contains-here y x xs e = (0, omega arith, e)

  pub Contains-there : (y x : X) (xs : List X) → Contains xs x → Contains (y ∷ xs) x
  Contains-there y x xs h = (suc h.0, omega (arith, h.1), h.2)

  pub Contains-cases : (y x : X) (xs : List X) → Contains (y ∷ xs) x → (y ≡ x) ⊎ Contains xs x
  Contains-cases y x xs (zero, lt, e) = inl e
  Contains-cases y x xs (suc k, lt, e) = inr (k, omega arith, e)

  pub Contains-nil : (x : X) → Contains [] x → ⊥
  Contains-nil x h = absurd (omega (arith, h.1))

  module _ (p : X → Bool) where
    pub Contains-from_filter : (x : X) (xs : List X) → Contains (filter p xs) x → Contains xs x
    Contains-from_filter x [] h = h
    Contains-from_filter x (y ∷ xs) h = go (p y) (λ g. Contains-from_filter x xs g) h
      where
        go : (b : Bool) → (Contains (filter p xs) x → Contains xs x) → Contains (cond b (y ∷ filter p xs) (filter p xs)) x → Contains (y ∷ xs) x
        go true more h = elim (Contains-cases y x (filter p xs) h) [
          | inl same ↦ Contains-here y x xs same
          | inr rest ↦ Contains-there y x xs (more rest)
        ]
        go false more h = Contains-there y x xs (more h)

    pub Contains-filter : (x : X) (xs : List X) → p x ≡ true → Contains xs x → Contains (filter p xs) x
    Contains-filter x [] pass h = h
    Contains-filter x (y ∷ xs) pass h = go (p y) refl (λ g. Contains-filter x xs pass g) (Contains-cases y x xs h)
      where
        go : (b : Bool) → p y ≡ b → (Contains xs x → Contains (filter p xs) x) → (y ≡ x) ⊎ Contains xs x → Contains (cond b (y ∷ filter p xs) (filter p xs)) x
        go true e more (inl same) = Contains-here y x (filter p xs) same
        go true e more (inr rest) = Contains-there y x (filter p xs) (more rest)
        go false e more (inl same) = let fails : p x ≡ false = sym (ap p same) ∙ e in absurd (cc)
        go false e more (inr rest) = more rest

    -- a filter by what nothing passes, turned round, keeps all
    pub filter-none : (q : X → Bool) → ((x : X) → p x ≡ false → q x ≡ true) → (xs : List X) → list_any p xs ≡ false → filter q xs ≡ xs
    filter-none q turned [] h = refl
    filter-none q turned (x ∷ xs) h = go (p x) refl (λ g. filter-none q turned xs g) h
      where
        go : (b : Bool) → p x ≡ b → (list_any p xs ≡ false → filter q xs ≡ xs) → (b || list_any p xs) ≡ false → filter q (x ∷ xs) ≡ x ∷ xs
        go true e more h = absurd (cc)
        go false e more h = rw (turned x e) (ap (λ r. x ∷ r) (more h))
