-- A look-up after an element went in or out.
use Rattle.std.proofs.Common.{◌≡◌, ◌≢◌, ℕ, zero, suc, ◌<◌, ◌≤◌, Bool, true, false, not, cond, List, [], ◌∷◌, Option, None, Some, is_some, length, get_or, set, insert, remove, refl, ap, subst, arith}
use Rattle.std.proofs.lemmas.List.Filters.{length-filter_both}
use Rattle.std.specs.List.{find, filter, slice_get}

pub is_some-none : {X : Type 0} (o : Option X) → is_some o ≡ false → o ≡ None
is_some-none None h = refl
is_some-none (Some x) h = absurd (cc)

module _ {X : Type 0} (p : X → Bool) where
  pub find-none : (xs : List X) → ((k : ℕ) (d : X) → k < length xs → p (get_or xs k d) ≡ false) → find p xs ≡ None
  find-none [] fails = refl
  find-none (x ∷ xs) fails = rw (fails 0 x (omega arith)) (find-none xs (λ k d lt. fails (suc k) d (omega arith)))

  pub find-at : (xs : List X) (i : ℕ) (x : X) → slice_get xs i ≡ Some x → p x ≡ true → ((k : ℕ) (d : X) → k < i → p (get_or xs k d) ≡ false) → find p xs ≡ Some x
  find-at [] i x at pass fails = absurd (cc)
  find-at (y ∷ xs) zero x at pass fails = let same : y ≡ x = cc in rw (same, pass) refl
  find-at (y ∷ xs) (suc i) x at pass fails = rw (fails 0 y (omega arith)) (find-at xs i x at pass (λ k d lt. fails (suc k) d (omega arith)))

  pub find-insert-other : (xs : List X) (i : ℕ) (y : X) → p y ≡ false → find p (insert xs i y) ≡ find p xs
  find-insert-other xs zero y fail = rw fail refl
  find-insert-other [] (suc i) y fail = rw fail refl
  find-insert-other (x ∷ xs) (suc i) y fail = ap (cond (p x) (Some x)) (find-insert-other xs i y fail)

  pub find-insert : (xs : List X) (i : ℕ) (y : X) → p y ≡ true → i ≤ length xs → ((k : ℕ) (d : X) → k < i → p (get_or xs k d) ≡ false) → find p (insert xs i y) ≡ Some y
  find-insert xs zero y pass le fails = rw pass refl
  find-insert [] (suc i) y pass le fails = absurd (omega arith)
  find-insert (x ∷ xs) (suc i) y pass le fails = rw (fails 0 x (omega arith)) (find-insert xs i y pass (omega arith) (λ k d lt. fails (suc k) d (omega arith)))

  pub find-remove-other : (xs : List X) (i : ℕ) (x : X) → slice_get xs i ≡ Some x → p x ≡ false → find p (remove xs i) ≡ find p xs
  find-remove-other [] i x at fail = absurd (cc)
  find-remove-other (y ∷ xs) zero x at fail = let same : y ≡ x = cc in rw (same, fail) refl
  find-remove-other (y ∷ xs) (suc i) x at fail = ap (cond (p y) (Some y)) (find-remove-other xs i x at fail)

  pub find-remove : (xs : List X) (i : ℕ) → ((k : ℕ) (d : X) → k < length xs → k ≢ i → p (get_or xs k d) ≡ false) → find p (remove xs i) ≡ None
  find-remove [] zero fails = refl
  find-remove [] (suc i) fails = refl
  find-remove (x ∷ xs) zero fails = find-none xs (λ k d lt. fails (suc k) d (omega arith) (λ e. absurd (omega arith)))
  find-remove (x ∷ xs) (suc i) fails =
      rw (fails 0 x (omega arith) (λ e. absurd (omega arith))) (find-remove xs i (λ k d lt ne. fails (suc k) d (omega arith) (λ e. ne (omega arith))))

  pub find-set : (xs : List X) (i : ℕ) (x y : X) → slice_get xs i ≡ Some x → p y ≡ true → ((k : ℕ) (d : X) → k < i → p (get_or xs k d) ≡ false) → find p (set xs i y) ≡ Some y
  find-set [] i x y at pass fails = absurd (cc)
  find-set (z ∷ xs) zero x y at pass fails = rw pass refl
  find-set (z ∷ xs) (suc i) x y at pass fails = rw (fails 0 z (omega arith)) (find-set xs i x y at pass (λ k d lt. fails (suc k) d (omega arith)))

  pub find-set-other : (xs : List X) (i : ℕ) (x y : X) → slice_get xs i ≡ Some x → p x ≡ false → p y ≡ false → find p (set xs i y) ≡ find p xs
  find-set-other [] i x y at was fail = refl
  find-set-other (z ∷ xs) zero x y at was fail = let same : z ≡ x = cc in rw (same, was, fail) refl
  find-set-other (z ∷ xs) (suc i) x y at was fail = ap (cond (p z) (Some z)) (find-set-other xs i x y at was fail)

  -- where none is found, each fails
  none-head : (x : X) (xs : List X) (b : Bool) → p x ≡ b → find p (x ∷ xs) ≡ None → (p x ≡ false) × (find p xs ≡ None)
  none-head x xs true e none = let found : cond true (Some x) (find p xs) ≡ None = subst (λ b. cond b (Some x) (find p xs) ≡ None) e none in absurd (cc)
  none-head x xs false e none = (e, subst (λ b. cond b (Some x) (find p xs) ≡ None) e none)

  pub fails-from_none : (xs : List X) → find p xs ≡ None → (k : ℕ) (d : X) → k < length xs → p (get_or xs k d) ≡ false
  fails-from_none [] none k d lt = absurd (omega arith)
  fails-from_none (x ∷ xs) none zero d lt = (none-head x xs (p x) refl none).0
  fails-from_none (x ∷ xs) none (suc k) d lt = fails-from_none xs ((none-head x xs (p x) refl none).1) k d (omega arith)

  -- a filter that lets each element through that passes, or none
  pub find-filter_kept : (keep : X → Bool) → ((x : X) → p x ≡ true → keep x ≡ true) → (xs : List X) → find p (filter keep xs) ≡ find p xs
  find-filter_kept keep same [] = refl
  find-filter_kept keep same (x ∷ xs) = go (p x) (keep x) refl refl (find-filter_kept keep same xs)
    where
      go : (b k : Bool) → p x ≡ b → keep x ≡ k → find p (filter keep xs) ≡ find p xs → find p (filter keep (x ∷ xs)) ≡ find p (x ∷ xs)
      go true true e f rest = rw (f, e) refl
      go true false e f rest = absurd (cc (same x e))
      go false true e f rest = rw (f, e) rest
      go false false e f rest = rw (f, e) rest

  pub find-filter_cut : (keep : X → Bool) → ((x : X) → p x ≡ true → keep x ≡ false) → (xs : List X) → find p (filter keep xs) ≡ None
  find-filter_cut keep same [] = refl
  find-filter_cut keep same (x ∷ xs) = go (p x) (keep x) refl refl (find-filter_cut keep same xs)
    where
      go : (b k : Bool) → p x ≡ b → keep x ≡ k → find p (filter keep xs) ≡ None → find p (filter keep (x ∷ xs)) ≡ None
      go true true e f rest = absurd (cc (same x e))
      go true false e f rest = rw f rest
      go false true e f rest = rw (f, e) rest
      go false false e f rest = rw f rest

  -- where none is found, a filter of the others lets all through
  pub find-filter_all : (xs : List X) → find p xs ≡ None → filter (λ x. not (p x)) xs ≡ xs
  find-filter_all [] none = refl
  find-filter_all (x ∷ xs) none = let parts = none-head x xs (p x) refl none in rw (parts.0) (ap (λ ys. x ∷ ys) (find-filter_all xs parts.1))

pub length-filter-le : {X : Type 0} (keep : X → Bool) (xs : List X) → length (filter keep xs) ≤ length xs
length-filter-le keep xs = let both = length-filter_both keep (λ x. not (keep x)) (λ x. refl) xs in omega arith
