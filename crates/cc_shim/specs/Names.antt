-- The names of a volume's streams.
use Rattle.std.specs.Prelude.{◌≡◌, ℕ, false, List, [], ◌∷◌, bytes_eq, slice_get}
use Rattle.std.specs.declared.option.Option.TheVariants.{Some}
use Rattle.std.specs.List.{AllByRecursion}

-- no name is equal to one after it
abbrev pub are_apart : List (List ℕ) → Type 0
are_apart [] = Unit {0}
are_apart (name ∷ names) = AllByRecursion (λ other. bytes_eq other name ≡ false) names × are_apart names

-- a stream has the name
abbrev pub StreamIsNamed : List (List ℕ) → List ℕ → Type 0
StreamIsNamed names name = (stream : ℕ) × (slice_get names stream ≡ Some name)
