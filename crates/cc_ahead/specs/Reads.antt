-- The kept reads of an object as a list.
use Rattle.std.specs.Prelude.{◌≡◌, List, [], ◌∷◌, refl}
use Rattle.cc_entry.specs.Place.{Range}
use Rattle.cc_ahead.specs.declared.map.LastReads.{LastReads}
use Rattle.cc_ahead.specs.declared.map.LastReads.TheVariants as reads

-- the newest first
abbrev pub reads_in : LastReads → List Range
reads_in reads.Empty = []
reads_in (reads.One read) = read ∷ []
reads_in (reads.Two newest older) = newest ∷ older ∷ []

-- the reads of which that is the list
abbrev pub reads_as : List Range → LastReads
reads_as [] = reads.Empty
reads_as (read ∷ []) = reads.One read
reads_as (newest ∷ older ∷ rest) = reads.Two newest older

pub reads_as-reads_in : (r : LastReads) → reads_as (reads_in r) ≡ r
reads_as-reads_in reads.Empty = refl
reads_as-reads_in (reads.One read) = refl
reads_as-reads_in (reads.Two newest older) = refl
