-- A range of which no page is absent is filled.
use Rattle.std.specs.Prelude.{◌≡◌, ℕ, Bool, true, false, not, List, [], ◌∷◌, Option, None, Some, refl}
use Rattle.std.specs.List.{find, list_all}
use Rattle.cc_entry.specs.Pages.{pages_of}
use Rattle.cc_entry.specs.Place.{Range}
use Rattle.cc_model.specs.Conditions.{IsFilled}
use Rattle.cc_model.specs.History.{Effect}
use Rattle.cc_model.specs.Residency.{is_resident}
use Rattle.cc_step.specs.Step.{least_absent}

none-found : (test : ℕ → Bool) (ps : List ℕ) → find (λ p. not (test p)) ps ≡ None → list_all test ps ≡ true
none-found test [] none = refl
none-found test (p ∷ ps) none = go (test p) refl (λ rest. none-found test ps rest)
  where
    go : (b : Bool) → test p ≡ b → (find (λ q. not (test q)) ps ≡ None → list_all test ps ≡ true) → list_all test (p ∷ ps) ≡ true
    go true is rest = rw is (rest (rw is at none))
    go false is rest = absurd (differ (rw is at none))
      where
        differ : Some p ≡ None → ⊥
        differ e = absurd (cc)

pub filled-none : (h : List Effect) (r : Option Range) → least_absent h r ≡ None → IsFilled h r
filled-none h None none = tt
filled-none h (Some r) none = none-found (is_resident h) (pages_of r) none
