-- The size and the valid data length, said of places of a history.
use Rattle.std.specs.Prelude.{ℕ, ◌+◌, Bool, true, false, not, ◌&&◌, nat_lt, nat_le, List, length}
use Rattle.std.specs.declared.option.Option.{Option}
use Rattle.std.specs.declared.option.Option.TheVariants.{Some, None}
use Rattle.cc_model.specs.History.{Effect, Did}
use Rattle.cc_model.specs.Acts.{Act, act_of, Opens, Writes, Zeroes, Stores}
use Rattle.cc_model.specs.Sizes.{stored_range}
use Rattle.cc_model.specs.Touches.{size_of, is_mapped}
use Rattle.cc_laws.specs.ByPlaces.{act_size}

-- the size that an effect sets: that of an initialise that makes the map, or of a size step
abbrev pub act_sets : Act → List Effect → Option ℕ
act_sets (Opens file given quota temporary) h = elim (is_mapped h) [ true ↦ None | false ↦ Some given.size ]
act_sets other h = act_size other h

abbrev pub size_set : Effect → List Effect → Option ℕ
size_set (Did pass call reply) h = act_sets (act_of call) h
size_set other h = None

abbrev pub is_set : Option ℕ → Bool
is_set None = false
is_set (Some size) = true

abbrev pub sets_size : Effect → List Effect → Bool
sets_size e h = is_set (size_set e h)

-- whether an effect makes the byte at i valid: a change that ends past it, or an initialise that makes
-- the map with a valid data length past it
abbrev pub act_validates : ℕ → Act → List Effect → Bool
act_validates i (Opens file given quota temporary) h = not (is_mapped h) && nat_lt i given.valid
act_validates i (Writes at bytes) h = nat_lt i (at + length bytes)
act_validates i (Zeroes from to) h = nat_lt i to
act_validates i (Stores page bytes) h = nat_lt i (stored_range page (size_of h)).to
act_validates i other h = false

abbrev pub validates : ℕ → Effect → List Effect → Bool
validates i (Did pass call reply) h = act_validates i (act_of call) h
validates i other h = false

-- whether an effect takes the byte at i from the valid ones: it makes the map anew, or is a size step
-- to the byte or below
abbrev pub sets_below : Option ℕ → ℕ → Bool
sets_below None i = false
sets_below (Some to) i = nat_le to i

abbrev pub act_invalidates : ℕ → Act → List Effect → Bool
act_invalidates i (Opens file given quota temporary) h = not (is_mapped h)
act_invalidates i other h = sets_below (act_size other h) i

abbrev pub invalidates : ℕ → Effect → List Effect → Bool
invalidates i (Did pass call reply) h = act_invalidates i (act_of call) h
invalidates i other h = false
