-- What holds of each element, and of each pair of elements, after one went in or out.
use Rattle.std.proofs.Common.{◌≡◌, ℕ, zero, suc, ◌<◌, ◌≤◌, List, [], ◌∷◌, Some, length, get_or, set, insert, remove, subst, arith}
use Rattle.std.proofs.lemmas.List.Elements.{All-cons, All-set}
use Rattle.std.proofs.lemmas.List.Kept.{AllPairs-cons}
use Rattle.std.specs.List.{slice_get, All, AllPairs}

module _ {X : Type 0} (P : X → Type 0) where
  pub All-nil : All P []
  All-nil k d lt = absurd (omega arith)

  pub All-at : (xs : List X) (i : ℕ) (x : X) → slice_get xs i ≡ Some x → All P xs → P x
  All-at [] i x at all = absurd (cc)
  All-at (y ∷ xs) zero x at all = let same : y ≡ x = cc in subst P same (all 0 y (omega arith))
  All-at (y ∷ xs) (suc i) x at all = All-at xs i x at (λ k d lt. all (suc k) d (omega arith))

  pub All-insert : (xs : List X) (i : ℕ) (y : X) → P y → All P xs → All P (insert xs i y)
  All-insert xs zero y p all = All-cons P y xs p all
  All-insert [] (suc i) y p all = All-cons P y [] p all
  All-insert (x ∷ xs) (suc i) y p all = All-cons P x (insert xs i y) (all 0 x (omega arith)) (All-insert xs i y p (λ k d lt. all (suc k) d (omega arith)))

  pub All-remove : (xs : List X) (i : ℕ) → All P xs → All P (remove xs i)
  All-remove [] zero all = all
  All-remove [] (suc i) all = all
  All-remove (x ∷ xs) zero all = λ k d lt. all (suc k) d (omega arith)
  All-remove (x ∷ xs) (suc i) all = All-cons P x (remove xs i) (all 0 x (omega arith)) (All-remove xs i (λ k d lt. all (suc k) d (omega arith)))

module _ {X : Type 0} (R : X → X → Type 0) where
  heads : (x : X) (xs : List X) → AllPairs R (x ∷ xs) → All (R x) xs
  heads x xs pairs = λ k d lt. pairs 0 (suc k) d (omega arith) (omega arith)

  tails : (x : X) (xs : List X) → AllPairs R (x ∷ xs) → AllPairs R xs
  tails x xs pairs = λ i j d a b. pairs (suc i) (suc j) d (omega arith) (omega arith)

  pub AllPairs-insert : (xs : List X) (i : ℕ) (y : X) → AllPairs R xs → ((k : ℕ) (d : X) → k < i → k < length xs → R (get_or xs k d) y)
      → ((k : ℕ) (d : X) → i ≤ k → k < length xs → R y (get_or xs k d)) → AllPairs R (insert xs i y)
  AllPairs-insert xs zero y pairs before after = AllPairs-cons R y xs (λ k d lt. after k d (omega arith) lt) pairs
  AllPairs-insert [] (suc i) y pairs before after = AllPairs-cons R y [] (λ k d lt. absurd (omega arith)) pairs
  AllPairs-insert (x ∷ xs) (suc i) y pairs before after =
      AllPairs-cons R x (insert xs i y)
      (All-insert (R x) xs i y (before 0 x (omega arith) (omega arith)) (heads x xs pairs))
      (AllPairs-insert xs i y (tails x xs pairs) (λ k d lt within. before (suc k) d (omega arith) (omega arith)) (λ k d le lt. after (suc k) d (omega arith) (omega arith)))

  -- a write of an element that stands to the others as the one before
  pub AllPairs-set : (xs : List X) (i : ℕ) (x y : X) → slice_get xs i ≡ Some x → ((a : X) → R a x → R a y) → ((a : X) → R x a → R y a) → AllPairs R xs → AllPairs R (set xs i y)
  AllPairs-set [] i x y at left right pairs = absurd (cc)
  AllPairs-set (z ∷ xs) zero x y at left right pairs =
      let same : z ≡ x = cc in
      let all : All (R x) xs = subst (λ (w : X). All (R w) xs) same (heads z xs pairs) in
      AllPairs-cons R y xs (λ k d lt. right (get_or xs k d) (all k d lt)) (tails z xs pairs)
  AllPairs-set (z ∷ xs) (suc i) x y at left right pairs =
      let all = heads z xs pairs in
      AllPairs-cons R z (set xs i y) (All-set (R z) xs i y (left z (All-at (R z) xs i x at all)) all) (AllPairs-set xs i x y at left right (tails z xs pairs))
