-- Bytes as parts: of each some bytes as they are, which one list keeps for all parts, and then more of one value.
use Rattle.std.specs.Prelude.{ℕ, ◌+◌, List, [], ◌∷◌, ◌++◌, take, drop, replicate}
use Rattle.cc_entry.specs.declared.part.Part.{Part}

-- the bytes of parts, of which these are kept as they are
abbrev pub bytes_in : List Part → List ℕ → List ℕ
bytes_in [] plain = []
bytes_in (part ∷ parts) plain = take part.plain plain ++ (replicate part.count part.byte ++ bytes_in parts (drop part.plain plain))

-- how many are kept as they are
abbrev pub plain_in : List Part → ℕ
plain_in [] = 0
plain_in (part ∷ parts) = part.plain + plain_in parts
