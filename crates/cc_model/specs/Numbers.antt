-- Lists of numbers.
use Rattle.std.specs.Prelude.{ℕ, Bool, true, false, not, ◌==◌, nat_lt, List, [], ◌∷◌, if◌then◌else◌}
use Rattle.std.specs.List.{list_any, filter}

-- whether a list has no element
abbrev pub is_empty : {A : Type 0} → List A → Bool
is_empty [] = true
is_empty (x ∷ xs) = false

-- whether the number is in the list
abbrev pub is_among : ℕ → List ℕ → Bool
is_among n ns = list_any (λ m. m == n) ns

-- the list without the number
abbrev pub without : ℕ → List ℕ → List ℕ
without n ns = filter (λ m. not (m == n)) ns

-- a number put in its place in an ascending list, which keeps each number once
abbrev pub placed : ℕ → List ℕ → List ℕ
placed n [] = n ∷ []
placed n (m ∷ ms) = if nat_lt n m then n ∷ m ∷ ms else (if m == n then m ∷ ms else m ∷ placed n ms)

-- each number of a list once, ascending
abbrev pub ascending : List ℕ → List ℕ
ascending [] = []
ascending (n ∷ ns) = placed n (ascending ns)
