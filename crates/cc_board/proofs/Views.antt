-- Sums over the views of all passes, and what a change of one view leaves.
use Rattle.std.proofs.Common.{◌≡◌, ℕ, zero, suc, ◌+◌, ◌≤◌, ◌≢◌, List, [], ◌∷◌, ◌++◌, set, refl, sym, ap, arith}
use mathlib.Core.Option.{some, some-injective, some-ne-none}
use lib.ListN.{get_elem?}
use Rattle.cc_board.specs.Rule.{total}

-- one view's number is within the sum
pub total-at : {V : Type 0} (f : V → ℕ) (l : List V) (i : ℕ) (v : V) → get_elem? l i ≡ some v → f v ≤ total f l
total-at f [] i v e = absurd (some-ne-none v (sym e))
total-at f (x ∷ xs) zero v e = let is : f x ≡ f v = ap f (some-injective x v e) in omega arith
total-at f (x ∷ xs) (suc i) v e = let r = total-at f xs i v e in omega arith

-- the sum after one view has changed
pub total-set : {V : Type 0} (f : V → ℕ) (l : List V) (i : ℕ) (v w : V) → get_elem? l i ≡ some v → total f (set l i w) + f v ≡ total f l + f w
total-set f [] i v w e = absurd (some-ne-none v (sym e))
total-set f (x ∷ xs) zero v w e = let is : f x ≡ f v = ap f (some-injective x v e) in omega arith
total-set f (x ∷ xs) (suc i) v w e = let r = total-set f xs i v w e in omega arith

-- and after one more view
pub total-snoc : {V : Type 0} (f : V → ℕ) (l : List V) (v : V) → total f (l ++ v ∷ []) ≡ total f l + f v
total-snoc f [] v = omega arith
total-snoc f (x ∷ xs) v = let r = total-snoc f xs v in omega arith

-- two views have no more than the whole
pub total-two : {V : Type 0} (f : V → ℕ) (l : List V) (i j : ℕ) (v w : V) → get_elem? l i ≡ some v → get_elem? l j ≡ some w → i ≢ j → f v + f w ≤ total f l
total-two f [] i j v w e d apart = absurd (some-ne-none v (sym e))
total-two f (x ∷ xs) zero zero v w e d apart = absurd (apart refl)
total-two f (x ∷ xs) zero (suc j) v w e d apart = let is : f x ≡ f v = ap f (some-injective x v e) in let r = total-at f xs j w d in omega arith
total-two f (x ∷ xs) (suc i) zero v w e d apart = let is : f x ≡ f w = ap f (some-injective x w d) in let r = total-at f xs i v e in omega arith
total-two f (x ∷ xs) (suc i) (suc j) v w e d apart = let r = total-two f xs i j v w e d (λ p. apart (ap suc p)) in omega arith

-- where no view has more of one number than of another, nor has the sum
all-within : {V : Type 0} (f g : V → ℕ) (l : List V) → ((j : ℕ) (w : V) → get_elem? l j ≡ some w → f w ≤ g w) → total f l ≤ total g l
all-within f g [] each = omega arith
all-within f g (x ∷ xs) each = let first = each 0 x refl in let r = all-within f g xs (λ j w at. each (suc j) w at) in omega arith

-- Where no other view has more of one number than of another, the sum has no more either, beside that view.
pub total-within : {V : Type 0} (f g : V → ℕ) (l : List V) (i : ℕ) (v : V) → get_elem? l i ≡ some v
    → ((j : ℕ) (w : V) → j ≢ i → get_elem? l j ≡ some w → f w ≤ g w) → total f l + g v ≤ total g l + f v
total-within f g [] i v e each = absurd (some-ne-none v (sym e))
total-within f g (x ∷ xs) zero v e each =
    let of_f : f x ≡ f v = ap f (some-injective x v e) in let of_g : g x ≡ g v = ap g (some-injective x v e) in
    let r = all-within f g xs (λ j w at. each (suc j) w (λ p. omega arith) at) in omega arith
total-within f g (x ∷ xs) (suc i) v e each =
    let first = each 0 x (λ p. omega arith) refl in
    let r = total-within f g xs i v e (λ j w apart at. each (suc j) w (λ p. apart (omega arith)) at) in omega arith
