-- The least and the greatest LSN of some stamps, as one pair, where there is a stamp.
use Rattle.std.specs.Prelude.{ℕ, Option, None, Some, min, max}

-- the least and the greatest LSN of two pairs of them, either of which may be missing
abbrev pub joined : Option (ℕ × ℕ) → Option (ℕ × ℕ) → Option (ℕ × ℕ)
joined None b = b
joined (Some a) None = Some a
joined (Some a) (Some b) = Some (min a.0 b.0, max a.1 b.1)

-- an LSN is the least and the greatest of itself
abbrev pub lsn_alone : Option ℕ → Option (ℕ × ℕ)
lsn_alone None = None
lsn_alone (Some lsn) = Some (lsn, lsn)
