-- A sum and marks over the streams, taken one after the other.
use Rattle.std.specs.Prelude.{◌≡◌, ◌≢◌, ℕ, suc, ◌+◌, ◌-◌, ◌<◌, ◌≤◌, nat_eq, Bool, true, false, List, length, slice_index_or, slice_set, refl}
use Rattle.std.specs.List.{range_with_len, fold}
use Rattle.std.proofs.Common.{ap, sym, ◌∙◌, arith}
use Rattle.std.proofs.lemmas.Bool.{eqb-true}
use Rattle.std.proofs.lemmas.Bool.Decides.{nat_tests}
use Rattle.std.proofs.lemmas.Grind.{get_or-set_at}
use Rattle.std.proofs.lemmas.List.{get_or-set_other}

pub sum_more : (f : ℕ → ℕ) (sum n end : ℕ) → n < end → fold (λ a s. a + f s) sum (range_with_len n (end - n)) ≡ fold (λ a s. a + f s) (sum + f n) (range_with_len (n + 1) (end - (n + 1)))
sum_more f sum n end within =
    let one : end - n ≡ suc (end - (n + 1)) = omega arith in
    ap (λ (k : ℕ). fold (λ a s. a + f s) sum (range_with_len n k)) one

pub sum_done : (f : ℕ → ℕ) (sum n end : ℕ) → end ≤ n → fold (λ a s. a + f s) sum (range_with_len n (end - n)) ≡ sum
sum_done f sum n end past =
    let none : end - n ≡ 0 = omega arith in
    ap (λ (k : ℕ). fold (λ a s. a + f s) sum (range_with_len n k)) none

-- one mark more
pub mark_more : (f : ℕ → Bool) (marks : List Bool) (n : ℕ) (b : Bool) → n < length marks → b ≡ f n → ((s : ℕ) → s < n → slice_index_or marks s false ≡ f s) → (s : ℕ) → s < n + 1 → slice_index_or (slice_set marks n b) s false ≡ f s
mark_more f marks n b within is before s below = go (nat_eq s n) refl
  where
    go : (same : Bool) → nat_eq s n ≡ same → slice_index_or (slice_set marks n b) s false ≡ f s
    go true here =
        let at : s ≡ n = eqb-true s n here in
        get_or-set_at marks n s b false at within ∙ (is ∙ ap f (sym at))
    go false away =
        let other : s ≢ n = grind (arith, nat_tests) in
        get_or-set_other marks n s b false other ∙ before s (omega (arith, other, below))
