-- Sums over streams of which at most one member rose.
use Rattle.std.specs.Prelude.{◌≡◌, ℕ, zero, suc, ◌+◌, ◌-◌, ◌<◌, ◌≤◌, Bool, true, false, ◌==◌, refl}
use Rattle.std.proofs.Common.{arith}
use Rattle.std.proofs.lemmas.Bool.{ne_eqb, eqb-true}
use Rattle.std.proofs.lemmas.List.Sums.{sum_by-cons, sum_by-le-sum_by}
use Rattle.std.specs.List.{sum_by, range_with_len}

sum_by-past : (f g : ℕ → ℕ) (t a n : ℕ) → ((s : ℕ) → (s == t) ≡ false → f s ≤ g s) → t < a → sum_by f (range_with_len a n) ≤ sum_by g (range_with_len a n)
sum_by-past f g t a zero others after = omega arith
sum_by-past f g t a (suc n) others after =
    let here : f a ≤ g a = others a (ne_eqb a t (λ e. omega arith)) in
    let rest : sum_by f (range_with_len (a + 1) n) ≤ sum_by g (range_with_len (a + 1) n) = sum_by-past f g t (a + 1) n others (omega arith) in
    rw (sum_by-cons f a (range_with_len (a + 1) n), sum_by-cons g a (range_with_len (a + 1) n)) (omega arith)

-- where one member changed, the sum rose by no more than that member
pub sum_by-one_changed : (f g : ℕ → ℕ) (t a n : ℕ) → ((s : ℕ) → (s == t) ≡ false → f s ≤ g s) → sum_by f (range_with_len a n) ≤ sum_by g (range_with_len a n) + f t
sum_by-one_changed f g t a zero others = omega arith
sum_by-one_changed f g t a (suc n) others = go (a == t) refl (sum_by-one_changed f g t (a + 1) n others)
  where
    go : (same : Bool) → (a == t) ≡ same → sum_by f (range_with_len (a + 1) n) ≤ sum_by g (range_with_len (a + 1) n) + f t → sum_by f (range_with_len a (suc n)) ≤ sum_by g (range_with_len a (suc n)) + f t
    go true is rest =
        let e : a ≡ t = eqb-true a t is in
        let here : f a ≡ f t = cc in
        let after : sum_by f (range_with_len (a + 1) n) ≤ sum_by g (range_with_len (a + 1) n) = sum_by-past f g t (a + 1) n others (omega arith) in
        rw (sum_by-cons f a (range_with_len (a + 1) n), sum_by-cons g a (range_with_len (a + 1) n)) (omega arith)
    go false is rest =
        let here : f a ≤ g a = others a is in
        rw (sum_by-cons f a (range_with_len (a + 1) n), sum_by-cons g a (range_with_len (a + 1) n)) (omega arith)

-- so it stays within a bound that has room for the member
pub sum_by-one_within : (f g : ℕ → ℕ) (t n top : ℕ) → ((s : ℕ) → (s == t) ≡ false → f s ≤ g s) → sum_by g (range_with_len 0 n) ≤ top → f t ≤ top - sum_by g (range_with_len 0 n) → sum_by f (range_with_len 0 n) ≤ top
sum_by-one_within f g t n top others within one =
    let rose : sum_by f (range_with_len 0 n) ≤ sum_by g (range_with_len 0 n) + f t = sum_by-one_changed f g t 0 n others in
    omega arith

pub sum_by-none_rose : (f g : ℕ → ℕ) (n top : ℕ) → ((s : ℕ) → f s ≤ g s) → sum_by g (range_with_len 0 n) ≤ top → sum_by f (range_with_len 0 n) ≤ top
sum_by-none_rose f g n top each within =
    let less : sum_by f (range_with_len 0 n) ≤ sum_by g (range_with_len 0 n) = sum_by-le-sum_by f g (range_with_len 0 n) each in
    omega arith
