-- What a past holds within a capacity.
use Rattle.std.specs.Prelude.{ℕ, ◌+◌, ◌≤◌, List, [], ◌∷◌, length}
use Rattle.cc_entry.specs.declared.entry.Entry.{Entry}
use Rattle.cc_model.specs.Room.{reserved_in}

-- the entries of a past and the places that they reserve are within a capacity
abbrev pub FitsIn : ℕ → List Entry → Type 0
FitsIn capacity past = length past + reserved_in past ≤ capacity

-- So are those of each front of the past. What passes have under way is in no entry, so it is not counted.
unfoldable pub IsWithinCapacity : ℕ → List Entry → Type 0
IsWithinCapacity capacity [] = Unit {0}
IsWithinCapacity capacity (e ∷ past) = FitsIn capacity (e ∷ past) × IsWithinCapacity capacity past
