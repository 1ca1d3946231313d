-- The words by which a caller names its holds: each has a number, in the order in which they are bound.
use Rattle.std.specs.Prelude.{ℕ, Option, Some, None, is_some, List, [], ◌∷◌, ◌++◌, length, map, if◌then◌else◌}
use Rattle.std.specs.declared.vec.Vec.{Vec}
use Rattle.std.specs.List.{position}
use Rattle.std.specs.Str.{bytes_eq}

-- the number of a word that was bound
abbrev pub word_of : List (List ℕ) → List ℕ → Option ℕ
word_of names word = position (λ name. bytes_eq name word) names

-- a word that is bound now, which none was before, and the words that are bound then
unfoldable pub new_word : List (List ℕ) → List ℕ → Option (ℕ × List (List ℕ))
new_word names name = if is_some (word_of names name) then None else Some (length names, names ++ name ∷ [])

-- the words as bytes
abbrev pub words_as_bytes : {A : Type 0} → List (Vec ℕ A) → List (List ℕ)
words_as_bytes words = map (λ word. word.items) words
