-- The order of places, and the classes of lengths.
use Rattle.std.proofs.Common.{◌≡◌, ◌==◌, ℕ, ◌+◌, ◌-◌, ◌*◌, ◌^◌, ◌<◌, ◌≤◌, true, false, Less, Equal, Greater, nat_cmp, suc, arith, ap, ◌∙◌, sym, subst}
use Rattle.std.proofs.lemmas.Bool.Decides.{nat_tests}
use Rattle.std.proofs.lemmas.Map.Lookups.{CmpEqualImpliesEq}
use Rattle.std.proofs.lemmas.Nat.{leading_length}
use Rattle.std.specs.Cmp.{IsTotalOrder, nat_cmp_total, on_total, then_total}
use Rattle.std.specs.BTreeMap.{is_at}
use Rattle.std.specs.BTreeMap.Range.{range_contains}
use Rattle.std.specs.declared.ops.Bound.TheVariants.{Included, Excluded}
use Rattle.cc_entry.specs.Place.{Range}
use Rattle.cc_locks.specs.Place.{LockPlace, place_cmp, class_of}

pub place_total : IsTotalOrder place_cmp
place_total = then_total (then_total (on_total (λ (p : LockPlace). p.0) nat_cmp_total) (on_total (λ (p : LockPlace). p.1) nat_cmp_total)) (on_total (λ (p : LockPlace). p.2) nat_cmp_total)

cmp-exact : (a b c d e f : ℕ) → place_cmp (a, b, c) (d, e, f) ≡ Equal → (a ≡ d) × (b ≡ e) × (c ≡ f)
cmp-exact a b c d e f h = (grind (arith, nat_tests), grind (arith, nat_tests), grind (arith, nat_tests))

pub place_exact : CmpEqualImpliesEq place_cmp
place_exact x y h = let e = cmp-exact x.0 x.1 x.2 y.0 y.1 y.2 h in λ i. (e.0 i, e.1 i, e.2 i)

pub place-same : (p : LockPlace) → is_at (place_cmp p) p ≡ true
place-same p = grind (arith, nat_tests)

pub place-apart : (p q : LockPlace) → q.2 < p.2 → is_at (place_cmp p) q ≡ false
place-apart p q lt = grind (arith, nat_tests)

pub place-within : (class low high : ℕ) (p : LockPlace) → p.0 ≡ class → low ≤ p.1 → p.1 < high
    → range_contains place_cmp (Included (class, low, 0)) (Excluded (class, high, 0)) p ≡ true
place-within class low high p e le lt = grind (arith, nat_tests)

pub at-same : (n : ℕ) → is_at (nat_cmp n) n ≡ true
at-same n = grind (arith, nat_tests)

pub at-apart : (n k : ℕ) → k < n → is_at (nat_cmp n) k ≡ false
at-apart n k lt = grind (arith, nat_tests)

pub at-true : (n k : ℕ) → is_at (nat_cmp n) k ≡ true → k ≡ n
at-true n k h = grind (arith, nat_tests)

pub at-false : (n k : ℕ) → is_at (nat_cmp n) k ≡ false → (k == n) ≡ false
at-false n k h = grind (arith, nat_tests)

pub cmp-greater : (n k : ℕ) → k < n → nat_cmp n k ≡ Greater
cmp-greater n k lt = grind (arith, nat_tests)

pub class-le : (r : Range) → class_of r ≤ 64
unfolding class_of
class-le r = omega arith

pub class-fits : (r : Range) → r.to - r.from < 2 ^ 64 → r.to - r.from < 2 ^ class_of r
unfolding class_of
class-fits r fits =
    let m = leading_length 64 (r.to - r.from) fits in
    let digits : m.0 ≡ class_of r = omega (arith, m.1) in
    subst (λ k. r.to - r.from < 2 ^ k) digits m.2
