-- What a worked piece is computed by, and how a wrong one is refused.
use Rattle.std.specs.Prelude.{◌≡◌, true, false, ◌⊎◌}
use Rattle.std.proofs.Common.{inl, inr}
use Rattle.cc_model.specs.Residency.{order_of_use}
use Rattle.cc_worked.proofs.Opened.{opened}

unfoldable pub computed : Unit {0}
unfolding opened order_of_use
computed = tt

-- neither of two cases can be
pub neither : {A B : Type 0} → (A → ⊥) → (B → ⊥) → A ⊎ B → ⊥
neither first second (inl a) = first a
neither first second (inr b) = second b

pub not_so : false ≡ true → ⊥
not_so is = absurd (cc)
