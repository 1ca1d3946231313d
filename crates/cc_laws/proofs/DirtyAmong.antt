-- The list of the dirty pages of a stream has each of them, and no other.
use Rattle.std.specs.Prelude.{◌≡◌, ℕ, Bool, true, false, cond, ◌||◌, ◌==◌, nat_lt, List, [], ◌∷◌, refl}
use Rattle.std.specs.declared.option.Option.TheVariants.{Some, None}
use Rattle.std.specs.List.{find}
use Rattle.std.proofs.Common.{ap, sym, ◌∙◌}
use Rattle.std.proofs.lemmas.Bool.{and_parts, and_from, not-true, eqb-true}
use Rattle.cc_model.specs.Numbers.{is_empty, is_among, placed, ascending}
use Rattle.cc_model.specs.History.{Effect}
use Rattle.cc_model.specs.Touches.{touched, touches, is_dirty, dirty_pages}
use Rattle.cc_laws.proofs.BlockLists.{is_among-filter}
use Rattle.cc_laws.proofs.DirtyFacts.{touched-left}

-- a number that is put in its place is in the list, with what was there
pub is_among-placed : (p n : ℕ) (ns : List ℕ) → is_among p (placed n ns) ≡ ((n == p) || is_among p ns)
is_among-placed p n [] = refl
is_among-placed p n (m ∷ ns) = go (nat_lt n m) (m == n) refl (is_among-placed p n ns)
  where
    swapped : (a b c : Bool) → (a || (b || c)) ≡ (b || (a || c))
    swapped true true c = refl
    swapped true false c = refl
    swapped false true c = refl
    swapped false false c = refl

    again : (a b : Bool) → (a || b) ≡ (a || (a || b))
    again true b = refl
    again false b = refl

    go : (t u : Bool) → (m == n) ≡ u → is_among p (placed n ns) ≡ ((n == p) || is_among p ns) → is_among p (cond t (n ∷ m ∷ ns) (cond u (m ∷ ns) (m ∷ placed n ns))) ≡ ((n == p) || ((m == p) || is_among p ns))
    go true u same rest = refl
    go false true same rest = again (m == p) (is_among p ns) ∙ ap (λ q. (q == p) || ((m == p) || is_among p ns)) (eqb-true m n same)
    go false false other rest = ap (λ t. (m == p) || t) rest ∙ swapped (m == p) (n == p) (is_among p ns)

pub is_among-ascending : (p : ℕ) (ns : List ℕ) → is_among p (ascending ns) ≡ is_among p ns
is_among-ascending p [] = refl
is_among-ascending p (n ∷ ns) = is_among-placed p n (ascending ns) ∙ ap (λ t. (n == p) || t) (is_among-ascending p ns)

pub dirty-among : (h : List Effect) (p : ℕ) → is_dirty h p ≡ true → is_among p (dirty_pages h) ≡ true
dirty-among h p dirty =
    is_among-filter (is_dirty h) p (ascending (touched h))
    ∙ and_from _ _ (is_among-ascending p (touched h) ∙ touched-left false h p (not-true (is_empty (touches false h p)) dirty)) dirty

-- and only these
pub dirty_pages-dirty : (h : List Effect) (q : ℕ) → is_among q (dirty_pages h) ≡ true → is_dirty h q ≡ true
dirty_pages-dirty h q is = (and_parts (is_among q (ascending (touched h))) (is_dirty h q) (sym (is_among-filter (is_dirty h) q (ascending (touched h))) ∙ is)).1

-- what is found in a list where nothing passes a test fails it
pub find-none : (test : ℕ → Bool) (p : ℕ) (ns : List ℕ) → find test ns ≡ None → is_among p ns ≡ true → test p ≡ false
find-none test p [] none is = absurd (cc)
find-none test p (n ∷ ns) none is = go (test n) refl none (n == p) refl is (find-none test p ns)
  where
    go : (t : Bool) → test n ≡ t → cond t (Some n) (find test ns) ≡ None → (u : Bool) → (n == p) ≡ u → (u || is_among p ns) ≡ true → (find test ns ≡ None → is_among p ns ≡ true → test p ≡ false) → test p ≡ false
    go true passes none u same is rest = absurd (cc)
    go false fails none true same is rest = sym (ap test (eqb-true n p same)) ∙ fails
    go false fails none false other is rest = rest none is
