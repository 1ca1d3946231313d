-- The bytes of a script as lines, and a line as words.
use Rattle.std.specs.Prelude.{ℕ, ◌==◌, List, [], ◌∷◌, length, filter, nat_lt, if◌then◌else◌}
use Rattle.std.specs.List.{slice_split}

-- the parts of a list of bytes between the bytes `separator`
abbrev pub parts : ℕ → List ℕ → List (List ℕ)
parts separator bytes = slice_split (λ b. b == separator) bytes

-- all parts, but an empty one at the end
abbrev pub without_empty_end : List (List ℕ) → List (List ℕ)
without_empty_end [] = []
without_empty_end (part ∷ []) = if length part == 0 then [] else part ∷ []
without_empty_end (part ∷ next ∷ more) = part ∷ without_empty_end (next ∷ more)

-- the lines: each is ended by a line feed, which the last may lack
unfoldable pub lines : List ℕ → List (List ℕ)
lines bytes = without_empty_end (parts 10 bytes)

-- the words: what stands between spaces
unfoldable pub words : List ℕ → List (List ℕ)
words line = filter (λ word. nat_lt 0 (length word)) (parts 32 line)
