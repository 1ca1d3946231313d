-- The forms of a word: what it stands for, or nothing where it has not the form.
use Rattle.std.specs.Prelude.{ℕ, ◌+◌, ◌-◌, ◌*◌, ◌^◌, ◌==◌, Bool, false, ◌&&◌, ◌||◌, Option, Some, None, List, [], ◌∷◌, ◌++◌, length, replicate, nat_lt, nat_le, if◌then◌else◌, codes}
use Rattle.std.specs.List.{list_all}
use Rattle.std.specs.Str.{bytes_eq}
use Rattle.std.specs.Char.{is_ascii_digit}
use Rattle.cc_script.specs.Outcome.{◌>>=◌}
use Rattle.cc_script.specs.Text.{parts}

-- the number n followed by further decimal digits, while it stays below 2^64
abbrev pub number_onto : ℕ → List ℕ → Option ℕ
number_onto n [] = Some n
number_onto n (d ∷ digits) =
    if is_ascii_digit d && nat_lt (n * 10 + (d - 48)) (2 ^ 64)
    then number_onto (n * 10 + (d - 48)) digits
    else None

-- a number: decimal, `0` or without a leading zero, below 2^64
unfoldable pub parsed_number : List ℕ → Option ℕ
parsed_number [] = None
parsed_number (d ∷ digits) = if d == 48 && nat_lt 0 (length digits) then None else number_onto 0 (d ∷ digits)

-- a number from `low` to `high`
unfoldable pub number_between : ℕ → ℕ → List ℕ → Option ℕ
number_between low high word = do
  n ← parsed_number word
  if nat_le low n && nat_le n high then Some n else None

abbrev pub is_lower_case : ℕ → Bool
is_lower_case c = nat_le 97 c && nat_le c 122

abbrev pub is_name_byte : ℕ → Bool
is_name_byte c = is_lower_case c || is_ascii_digit c

-- a name: a lower-case letter, then up to 15 lower-case letters or digits
unfoldable pub is_name : List ℕ → Bool
is_name [] = false
is_name (c ∷ more) = is_lower_case c && (nat_le (length more) 15 && list_all is_name_byte (c ∷ more))

unfoldable pub name_of_word : List ℕ → Option (List ℕ)
name_of_word word = if is_name word then Some word else None

-- a caller word: `t1` to `t16`
unfoldable pub parsed_caller : List ℕ → Option ℕ
parsed_caller [] = None
parsed_caller (c ∷ number) = if c == 116 then number_between 1 16 number else None

-- an upper-case hexadecimal digit
abbrev pub parsed_hex_digit : ℕ → Option ℕ
parsed_hex_digit c = if is_ascii_digit c then Some (c - 48) else (if nat_le 65 c && nat_le c 70 then Some (c - 55) else None)

-- a byte as a pair of digits
unfoldable pub parsed_pair : ℕ → ℕ → Option ℕ
parsed_pair a b = do
  high ← parsed_hex_digit a
  low ← parsed_hex_digit b
  Some (16 * high + low)

-- `count` bytes of one value after others, in all at most 2097152
unfoldable pub with_bytes : List ℕ → ℕ → ℕ → Option (List ℕ)
with_bytes before byte count = if nat_le (length before + count) 2097152 then Some (before ++ replicate count byte) else None

-- a pair of digits, one byte
unfoldable pub pair_onto : List ℕ → ℕ → ℕ → Option (List ℕ)
pair_onto before a b = do
  byte ← parsed_pair a b
  with_bytes before byte 1

-- pairs of digits, one byte each
unfoldable pub pairs_onto : List ℕ → List ℕ → Option (List ℕ)
pairs_onto before [] = Some before
pairs_onto before (a ∷ []) = None
pairs_onto before (a ∷ b ∷ more) = do
  bytes ← pair_onto before a b
  pairs_onto bytes more

-- a pair, `x` and how many bytes there are of that value
unfoldable pub run_onto : List ℕ → ℕ → ℕ → List ℕ → Option (List ℕ)
run_onto before a b number = do
  byte ← parsed_pair a b
  count ← number_between 1 2097152 number
  with_bytes before byte count

-- an item: a run, or one or more pairs
unfoldable pub item_onto : List ℕ → List ℕ → Option (List ℕ)
item_onto before [] = None
item_onto before (a ∷ []) = None
item_onto before (a ∷ b ∷ []) = pairs_onto before (a ∷ b ∷ [])
item_onto before (a ∷ b ∷ c ∷ more) = if c == 120 then run_onto before a b more else pairs_onto before (a ∷ b ∷ c ∷ more)

unfoldable pub items_onto : List ℕ → List (List ℕ) → Option (List ℕ)
items_onto before [] = Some before
items_onto before (item ∷ more) = do
  bytes ← item_onto before item
  items_onto bytes more

-- bytes: `-` for none, or items parted by commas
unfoldable pub parsed_bytes : List ℕ → Option (List ℕ)
parsed_bytes word = if bytes_eq word (codes "-") then Some [] else items_onto [] (parts 44 word)
