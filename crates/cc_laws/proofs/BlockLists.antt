-- Lists of view blocks: what stays after a test, and an order of use after blocks were used.
use Rattle.std.specs.Prelude.{◌≡◌, ℕ, Bool, true, false, cond, not, ◌&&◌, ◌||◌, ◌==◌, nat_eq, List, [], ◌∷◌, ◌++◌, refl}
use Rattle.std.proofs.Common.{ap, sym, ◌∙◌}
use Rattle.std.proofs.lemmas.Bool.{and_right, eqb-true, eq-eqb, ne_eqb}
use Rattle.std.proofs.lemmas.List.Folds.{list_any-append}
use Rattle.std.proofs.lemmas.List.Kept.{AllPairs-filter}
use Rattle.std.proofs.lemmas.Map.Keys.{IsDistinct-push, apart_from_distinct, IsDistinct-from_apart}
use Rattle.std.specs.Cmp.{nat_eq_equiv}
use Rattle.std.specs.List.{filter, list_any, IsDistinct}
use Rattle.cc_model.specs.Numbers.{is_among, without}
use Rattle.cc_model.specs.Residency.{used}

-- a number is among those that pass a test where it is among all and passes
pub is_among-filter : (test : ℕ → Bool) (b : ℕ) (ns : List ℕ) → is_among b (filter test ns) ≡ (is_among b ns && test b)
is_among-filter test b [] = refl
is_among-filter test b (n ∷ ns) = go (test n) (n == b) refl refl (is_among-filter test b ns)
  where
    go : (t same : Bool) → test n ≡ t → (n == b) ≡ same → is_among b (filter test ns) ≡ (is_among b ns && test b) → is_among b (cond t (n ∷ filter test ns) (filter test ns)) ≡ ((same || is_among b ns) && test b)
    go true true is same rest = let passes : test b ≡ true = sym (ap test (eqb-true n b same)) ∙ is in rw (same, passes) refl
    go true false is same rest = rw same rest
    go false true is same rest = let fails : test b ≡ false = sym (ap test (eqb-true n b same)) ∙ is in rest ∙ (and_right (is_among b ns) (test b) fails ∙ sym fails)
    go false false is same rest = rest

pub list_any-filter : (test kept : ℕ → Bool) (ns : List ℕ) → list_any test (filter kept ns) ≡ true → list_any test ns ≡ true
list_any-filter test kept [] some = some
list_any-filter test kept (n ∷ ns) some = go (kept n) (test n) refl some (list_any-filter test kept ns)
  where
    go : (t u : Bool) → test n ≡ u → list_any test (cond t (n ∷ filter kept ns) (filter kept ns)) ≡ true → (list_any test (filter kept ns) ≡ true → list_any test ns ≡ true) → (u || list_any test ns) ≡ true
    go t true is some rest = refl
    go true false is some rest = rest (rw is at some)
    go false false is some rest = rest some

pub IsDistinct-filter : (test : ℕ → Bool) (ns : List ℕ) → IsDistinct nat_eq ns → IsDistinct nat_eq (filter test ns)
IsDistinct-filter test ns distinct =
    IsDistinct-from_apart nat_eq (filter test ns) (AllPairs-filter (λ x y. nat_eq x y ≡ false) test ns (λ i j d. apart_from_distinct nat_eq ns i j d distinct))

pub same-flip : (m n : ℕ) → (m == n) ≡ (n == m)
same-flip m n = go (m == n) refl
  where
    go : (t : Bool) → (m == n) ≡ t → t ≡ (n == m)
    go true is = sym (eq-eqb n m (sym (eqb-true m n is)))
    go false is = sym (ne_eqb n m (λ e. apart (eq-eqb m n (sym e))))
      where
        apart : (m == n) ≡ true → ⊥
        apart same = cc

none_without : (b : ℕ) (ns : List ℕ) → list_any (nat_eq b) (without b ns) ≡ false
none_without b [] = refl
none_without b (n ∷ ns) = go (n == b) refl (none_without b ns)
  where
    go : (t : Bool) → (n == b) ≡ t → list_any (nat_eq b) (without b ns) ≡ false → list_any (nat_eq b) (cond (not t) (n ∷ without b ns) (without b ns)) ≡ false
    go true same rest = rest
    go false other rest = rw (same-flip b n, other) rest

-- the use of blocks keeps each once
pub IsDistinct-used : (bs order : List ℕ) → IsDistinct nat_eq order → IsDistinct nat_eq (used bs order)
IsDistinct-used [] order distinct = distinct
IsDistinct-used (b ∷ bs) order distinct =
    IsDistinct-used bs (without b order ++ b ∷ []) (IsDistinct-push nat_eq_equiv (without b order) b (IsDistinct-filter (λ m. not (m == b)) order distinct) (none_without b order))

-- and adds those that are used
pub is_among-used : (c : ℕ) (bs order : List ℕ) → is_among c (used bs order) ≡ (is_among c bs || is_among c order)
is_among-used c [] order = refl
is_among-used c (b ∷ bs) order =
    is_among-used c bs (without b order ++ b ∷ []) ∙ (ap (λ t. is_among c bs || t) placed ∙ regroup (is_among c bs) (is_among c order) (b == c))
  where
    placed : is_among c (without b order ++ b ∷ []) ≡ ((is_among c order && not (b == c)) || ((b == c) || false))
    placed = list_any-append (λ m. m == c) (without b order) (b ∷ []) ∙ ap (λ t. t || ((b == c) || false)) (is_among-filter (λ m. not (m == b)) c order ∙ rw (same-flip c b) refl)

    regroup : (x y s : Bool) → (x || ((y && not s) || (s || false))) ≡ ((s || x) || y)
    regroup true y true = refl
    regroup true y false = refl
    regroup false true true = refl
    regroup false false true = refl
    regroup false true false = refl
    regroup false false false = refl
