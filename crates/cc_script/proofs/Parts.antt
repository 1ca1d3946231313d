-- The first part of a list, and lines and words that follow it.
use Rattle.std.proofs.Common.{◌≡◌, ℕ, ◌+◌, ◌<◌, ◌≤◌, if◌then◌else◌, ◌==◌, Bool, true, false, cond, Some, None, List, [], ◌∷◌, length, take, drop, nat_lt, refl, arith}
use Rattle.std.specs.List.{slice_split, position, position_or_len}
use Rattle.std.proofs.lemmas.List.Splits.{slice_split_first}
use Rattle.std.proofs.lemmas.Bool.Decides.{nat_tests}
use Rattle.cc_script.specs.Text.{parts, lines, words}

-- where an element passes, the first part ends there
pub split_found : {X : Type 0} (p : X → Bool) → (xs : List X) (d : X) (i : ℕ) → position p xs ≡ Some i → slice_split p xs ≡ take i xs ∷ slice_split p (drop (i + 1) xs)
split_found p xs d i h = found (nat_lt (position_or_len p xs) (length xs)) refl h
  where
    found : (t : Bool) → nat_lt (position_or_len p xs) (length xs) ≡ t → cond t (Some (position_or_len p xs)) None ≡ Some i → slice_split p xs ≡ take i xs ∷ slice_split p (drop (i + 1) xs)
    found true e f =
        let within : position_or_len p xs < length xs = grind (arith, nat_tests) in
        let same : position_or_len p xs ≡ i = cc in
        rw (← same) (slice_split_first p xs d within)
    found false e f = absurd (cc)

-- where none does, the list is the one part
pub split_past : {X : Type 0} (p : X → Bool) → (xs : List X) → length xs ≤ position_or_len p xs → slice_split p xs ≡ xs ∷ []
split_past p [] l = refl
split_past p (x ∷ xs) l = either (p x) refl (split_past p xs)
  where
    either : (t : Bool) → p x ≡ t → (length xs ≤ position_or_len p xs → slice_split p xs ≡ xs ∷ []) → slice_split p (x ∷ xs) ≡ (x ∷ xs) ∷ []
    either true e more =
        let z : position_or_len p (x ∷ xs) ≡ 0 = simp e in absurd (omega (arith, z))
    either false e more =
        let z : position_or_len p (x ∷ xs) ≡ 1 + position_or_len p xs = simp e in
        simp (e, more (omega (arith, z)))

pub split_none : {X : Type 0} (p : X → Bool) → (xs : List X) → position p xs ≡ None → slice_split p xs ≡ xs ∷ []
split_none {X} p xs h = alone (nat_lt (position_or_len p xs) (length xs)) refl h
  where
    alone : (t : Bool) → nat_lt (position_or_len p xs) (length xs) ≡ t → cond t (Some (position_or_len p xs)) None ≡ None → slice_split p xs ≡ xs ∷ []
    alone true e f = absurd (cc)
    alone false e f = split_past p xs (grind (arith, nat_tests))

-- the words of bytes whose first part is known
pub words_last : (bytes word : List ℕ) → parts 32 bytes ≡ word ∷ [] → words bytes ≡ (if nat_lt 0 (length word) then word ∷ words [] else words [])
unfolding words
words_last bytes word e = rw e refl

pub words_more : (bytes word rest : List ℕ) → parts 32 bytes ≡ word ∷ parts 32 rest → words bytes ≡ (if nat_lt 0 (length word) then word ∷ words rest else words rest)
unfolding words
words_more bytes word rest e = rw e refl

-- parts are never none
pub some_part : {X : Type 0} (p : X → Bool) (xs : List X) → (front : List X) × (more : List (List X)) × (slice_split p xs ≡ front ∷ more)
some_part p [] = ([], [], refl)
some_part {X} p (x ∷ xs) = either (p x) refl (some_part p xs)
  where
    either : (t : Bool) → p x ≡ t → ((front : List X) × (more : List (List X)) × (slice_split p xs ≡ front ∷ more)) → (front : List X) × (more : List (List X)) × (slice_split p (x ∷ xs) ≡ front ∷ more)
    either true e s = ([], slice_split p xs, simp e)
    either false e s = (x ∷ s.0, s.1, simp (e, s.2))

-- the lines of bytes whose first part is known
pub lines_last : (bytes line : List ℕ) → 0 < length line → parts 10 bytes ≡ line ∷ [] → lines bytes ≡ line ∷ lines []
unfolding lines
lines_last bytes line l e =
    let z : (length line == 0) ≡ false = grind (arith, nat_tests) in
    rw e (simp z)

pub lines_more : (bytes line rest : List ℕ) → parts 10 bytes ≡ line ∷ parts 10 rest → lines bytes ≡ line ∷ lines rest
unfolding lines
lines_more bytes line rest e =
    let s = some_part (λ b. b == 10) rest in
    rw (e, s.2) refl

-- no bytes have no words, and no lines
pub words_none : (bytes : List ℕ) → length bytes ≡ 0 → words bytes ≡ []
unfolding words
words_none [] e = refl
words_none (b ∷ bytes) e = absurd (omega arith)

pub lines_none : (bytes : List ℕ) → length bytes ≡ 0 → lines bytes ≡ []
unfolding lines
lines_none [] e = refl
lines_none (b ∷ bytes) e = absurd (omega arith)
