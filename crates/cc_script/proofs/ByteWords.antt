-- Steps of the reader of bytes.
use Rattle.std.proofs.Common.{◌≡◌, ℕ, Some, List, ◌∷◌, refl}
use Rattle.cc_script.specs.Words.{pair_onto, pairs_onto}

-- one pair after another
pub pairs_step : (before : List ℕ) (a b : ℕ) (whole tail behind bytes : List ℕ) → whole ≡ a ∷ tail → tail ≡ b ∷ behind → pair_onto before a b ≡ Some bytes → pairs_onto before whole ≡ pairs_onto bytes behind
unfolding pairs_onto
pairs_step before a b whole tail behind bytes head next step = rw (head, next, step) refl
