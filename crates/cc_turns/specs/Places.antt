-- Places, and rows with room.
use Rattle.std.specs.Prelude.{◌≡◌, ◌↔◌, ℕ, ◌≤◌, List, [], length, slice_get}
use Rattle.std.specs.List.{filter_map}
use Rattle.std.specs.declared.option.Option.{Option}
use Rattle.std.specs.declared.option.Option.TheVariants.{Some, None}

-- Places for as many things as there are: just the one that is held is out, and each other is at home.
pub record AreHome {A : Type 0} (count : ℕ) (held : Option ℕ) (IsHome : ℕ → A → Type 0) (places : List (Option A)) : Type 0 where
  pub counted : length places ≡ count
  pub home : (n : ℕ) (a : A) → slice_get places n ≡ Some (Some a) → IsHome n a
  pub out : (n : ℕ) → (slice_get places n ≡ Some None) ↔ (held ≡ Some n)

-- what is at home, in the order of its places
abbrev pub at_home : {A : Type 0} → List (Option A) → List A
at_home places = filter_map (λ place. place) places

-- An empty row has room for so many.
pub record IsRoomFor {A : Type 0} (count : ℕ) (items : List A) (capacity : ℕ) : Type 0 where
  pub empty : items ≡ []
  pub room : count ≤ capacity
