-- Numbers that a test finds in a list.
use Rattle.std.specs.Prelude.{◌≡◌, ℕ, zero, suc, ◌+◌, ◌<◌, ◌≤◌, Bool, true, false, cond, ◌||◌, ◌==◌, nat_eq, List, [], ◌∷◌, refl}
use Rattle.std.proofs.Common.{ap, sym, ◌∙◌, arith, true≢false}
use Rattle.std.proofs.lemmas.Bool.{and_parts, or_parts, or_left, or_right, eqb-true, eq-eqb}
use Rattle.std.specs.List.{filter, list_any, list_all, range_with_len, IsDistinct, AllByRecursion}
use Rattle.cc_model.specs.Numbers.{is_among}
use Rattle.cc_laws.proofs.BlockLists.{same-flip}

-- two answers are the same where each is true with the other
pub same_answer : (a b : Bool) → (a ≡ true → b ≡ true) → (b ≡ true → a ≡ true) → a ≡ b
same_answer true b goes comes = sym (goes refl)
same_answer false true goes comes = comes refl
same_answer false false goes comes = refl

-- a number of a list that passes a test
pub record Found (test : ℕ → Bool) (ns : List ℕ) : Type 0 where
  pub at : ℕ
  pub among : is_among at ns ≡ true
  pub passes : test at ≡ true

pub Found-any : (test : ℕ → Bool) (ns : List ℕ) → list_any test ns ≡ true → Found test ns
Found-any test [] some = absurd (true≢false (sym some))
Found-any test (n ∷ ns) some = go (test n) refl some (Found-any test ns)
  where
    go : (t : Bool) → test n ≡ t → (t || list_any test ns) ≡ true → (list_any test ns ≡ true → Found test ns) → Found test (n ∷ ns)
    go true is some rest = record { at = n; among = or_left _ _ (eq-eqb n n refl); passes = is }
    go false is some rest =
        let found = rest some in
        record { at = found.at; among = or_right (n == found.at) _ found.among; passes = found.passes }

-- what is among the numbers of a range lies within it
pub among-within : (q from len : ℕ) → is_among q (range_with_len from len) ≡ true → (from ≤ q) × (q < from + len)
among-within q from zero some = absurd (true≢false (sym some))
among-within q from (suc len) some = go (from == q) refl some (among-within q (from + 1) len)
  where
    go : (t : Bool) → (from == q) ≡ t → (t || is_among q (range_with_len (from + 1) len)) ≡ true → (is_among q (range_with_len (from + 1) len) ≡ true → (from + 1 ≤ q) × (q < from + 1 + len)) → (from ≤ q) × (q < from + suc len)
    go true same some rest = let e = eqb-true from q same in (omega arith, omega arith)
    go false other some rest = let k = rest some in (omega (arith, k.0), omega (arith, k.1))

-- a test that holds of all keeps them
pub filter-all : (test : ℕ → Bool) (ns : List ℕ) → list_all test ns ≡ true → filter test ns ≡ ns
filter-all test [] all = refl
filter-all test (n ∷ ns) all =
    let parts = and_parts (test n) (list_all test ns) all in
    ap (λ t. cond t (n ∷ filter test ns) (filter test ns)) parts.0 ∙ ap (λ l. n ∷ l) (filter-all test ns parts.1)

-- a test that holds of none keeps none
pub filter-none : (test : ℕ → Bool) (ns : List ℕ) → ((n : ℕ) → test n ≡ false) → filter test ns ≡ []
filter-none test [] none = refl
filter-none test (n ∷ ns) none = ap (λ t. cond t (n ∷ filter test ns) (filter test ns)) (none n) ∙ filter-none test ns none

-- tests that agree keep the same
pub filter-same : (test other : ℕ → Bool) (ns : List ℕ) → ((n : ℕ) → test n ≡ other n) → filter test ns ≡ filter other ns
filter-same test other [] same = refl
filter-same test other (n ∷ ns) same =
    ap (λ t. cond t (n ∷ filter test ns) (filter test ns)) (same n) ∙ ap (λ l. cond (other n) (n ∷ l) l) (filter-same test other ns same)

-- a number that is not there goes in front
pub IsDistinct-front : (n : ℕ) (ns : List ℕ) → is_among n ns ≡ false → IsDistinct nat_eq ns → IsDistinct nat_eq (n ∷ ns)
unfolding IsDistinct
IsDistinct-front n ns absent distinct = (apart ns absent, distinct)
  where
    apart : (ms : List ℕ) → is_among n ms ≡ false → AllByRecursion (λ m. nat_eq n m ≡ false) ms
    apart [] absent = tt
    apart (m ∷ ms) absent =
        let parts = or_parts (m == n) (is_among n ms) absent in
        (same-flip n m ∙ parts.0, apart ms parts.1)
