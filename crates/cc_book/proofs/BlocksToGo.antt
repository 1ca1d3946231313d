-- The block to give up, found among those by last use.
use Rattle.std.specs.Prelude.{◌≡◌, ℕ, Bool, true, false, not, ◌&&◌, ◌||◌, List, [], ◌∷◌, Some, if◌then◌else◌, refl}
use Rattle.std.specs.List.{find}
use Rattle.cc_model.specs.Numbers.{is_among}
use Rattle.cc_views.specs.Views.{first_not_in}

-- the first block that is not kept is the first that is in neither list, where the kept ones are those of both
pub first-of_neither : (kept held asked order : List ℕ) → ((b : ℕ) → is_among b kept ≡ (is_among b held || is_among b asked)) → first_not_in kept order ≡ find (λ b. not (is_among b held) && not (is_among b asked)) order
first-of_neither kept held asked [] same = refl
first-of_neither kept held asked (b ∷ order) same = rw (same b) (go (is_among b held) (is_among b asked) (first-of_neither kept held asked order same))
  where
    go : (x y : Bool) → first_not_in kept order ≡ find (λ b. not (is_among b held) && not (is_among b asked)) order → (if x || y then first_not_in kept order else Some b) ≡ (if not x && not y then Some b else find (λ b. not (is_among b held) && not (is_among b asked)) order)
    go true y rest = rest
    go false true rest = rest
    go false false rest = refl
