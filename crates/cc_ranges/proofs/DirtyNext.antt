-- Whether a page is dirty, and whether it has bytes that can be written, by what the next dirty page is.
use Rattle.std.specs.Prelude.{◌≡◌, ℕ, ◌<◌, ◌≤◌, Bool, true, false, not, ◌||◌, ◌==◌, List, None, refl}
use Rattle.std.proofs.Common.{ap, sym, subst, arith}
use Rattle.std.proofs.lemmas.Bool.{eqb-true}
use Rattle.std.proofs.lemmas.Bool.Decides.{nat_tests}
use Rattle.cc_ranges.specs.Dirty.{IsNext, IsCleanFrom}
use Rattle.cc_model.specs.History.{Effect}
use Rattle.cc_model.specs.Touches.{is_dirty}

-- whether a page is dirty is whether it is the next dirty one from it on
pub dirty-next : (h : List Effect) (page next : ℕ) → IsNext h None page next → (next == page) ≡ is_dirty h page
dirty-next h page next is = go (next == page) refl
  where
    less : page ≤ next → (next == page) ≡ false → page < next
    less most other = grind (arith, nat_tests)

    go : (b : Bool) → (next == page) ≡ b → b ≡ is_dirty h page
    go true same = sym (subst (λ (n : ℕ). is_dirty h n ≡ true) (eqb-true next page same) is.dirty)
    go false other = sym (is.between page (omega arith) (less is.from_is other) refl)

pub clean-next : (h : List Effect) (page : ℕ) → IsCleanFrom h None page → false ≡ is_dirty h page
clean-next h page clean = sym (clean page (omega arith) refl)

-- a dirty page has bytes that can be written where it is not Unstamped
pub stamped-is : (dirty unstamped is : Bool) → dirty ≡ true → is ≡ unstamped → not is ≡ not (not dirty || unstamped)
stamped-is true unstamped is dirty same = ap not same
stamped-is false unstamped is dirty same = absurd (cc)

-- what is said by its opposite
pub never : (b : Bool) → not b ≡ true → b ≡ false
never true is = absurd (cc)
never false is = refl

pub always : (b : Bool) → not b ≡ false → b ≡ true
always true is = refl
always false is = absurd (cc)
