-- The table of digits has those of each byte, and digits are ASCII.
use Rattle.std.proofs.Common.{◌≡◌, ℕ, zero, suc, ◌+◌, ◌/◌, ◌%◌, ◌<◌, ◌==◌, Bool, true, false, ◌&&◌, List, [], ◌∷◌, ◌++◌, length, get_or, map, slice_index, refl, arith}
use Rattle.std.specs.Fmt.{digit_glyph}
use Rattle.std.specs.Str.{IsAscii}
use Rattle.std.proofs.lemmas.Bool.{and_parts, eqb-true}
use Rattle.std.proofs.lemmas.Bool.Decides.{nat_tests}
use Rattle.std.proofs.lemmas.Str.Ascii.{IsAscii-nil, IsAscii-cons}
use Rattle.cc_entry.specs.Runs.{byte_alone}
use Rattle.cc_print.specs.Words.{hex_pair, more_runs}
use Rattle.cc_print.specs.declared.words.TheConstants.{PAIRS}

-- these two digits
abbrev is_pair : List ℕ → ℕ → ℕ → Bool
is_pair [] high low = false
is_pair (a ∷ []) high low = false
is_pair (a ∷ b ∷ []) high low = (a == high) && (b == low)
is_pair (a ∷ b ∷ c ∷ more) high low = false

is_pair-is : (pair : List ℕ) (high low : ℕ) → is_pair pair high low ≡ true → pair ≡ high ∷ low ∷ []
is_pair-is [] high low h = cc h
is_pair-is (a ∷ []) high low h = cc h
is_pair-is (a ∷ b ∷ []) high low h =
    let parts = and_parts (a == high) (b == low) h in
    rw (eqb-true a high parts.0) (rw (eqb-true b low parts.1) refl)
is_pair-is (a ∷ b ∷ c ∷ more) high low h = cc h

-- the digits of a byte and of those behind it
abbrev are_pairs : ℕ → List (List ℕ) → Bool
are_pairs byte [] = true
are_pairs byte (pair ∷ pairs) = is_pair pair (digit_glyph true (byte / 16)) (digit_glyph true (byte % 16)) && are_pairs (byte + 1) pairs

are_pairs-at : (byte : ℕ) (pairs : List (List ℕ)) (k n : ℕ) → are_pairs byte pairs ≡ true → k < length pairs → n ≡ byte + k → get_or pairs k [] ≡ hex_pair n
are_pairs-at byte [] k n h lt e = absurd (omega arith)
are_pairs-at byte (pair ∷ pairs) zero n h lt e =
    let parts = and_parts (is_pair pair (digit_glyph true (byte / 16)) (digit_glyph true (byte % 16))) (are_pairs (byte + 1) pairs) h in
    let same : n ≡ byte = omega arith in
    rw same (is_pair-is pair _ _ parts.0)
are_pairs-at byte (pair ∷ pairs) (suc k) n h lt e =
    let parts = and_parts (is_pair pair (digit_glyph true (byte / 16)) (digit_glyph true (byte % 16))) (are_pairs (byte + 1) pairs) h in
    are_pairs-at (byte + 1) pairs k n parts.1 (omega arith) (omega arith)

pub pair_at : (byte : ℕ) → byte < 256 → get_or PAIRS byte [] ≡ hex_pair byte
pair_at byte lt = are_pairs-at 0 PAIRS byte byte refl lt (omega arith)

digit_ascii : (digit : ℕ) → digit < 16 → digit_glyph true digit < 128
digit_ascii digit lt = grind (arith, nat_tests)

-- the digits of a byte before more that is ASCII
pair_before : (byte : ℕ) (text : List ℕ) → byte < 256 → IsAscii text → IsAscii (digit_glyph true (byte / 16) ∷ digit_glyph true (byte % 16) ∷ text)
pair_before byte text lt ascii =
    IsAscii-cons (digit_glyph true (byte / 16)) (digit_glyph true (byte % 16) ∷ text) (digit_ascii (byte / 16) (omega arith))
    (IsAscii-cons (digit_glyph true (byte % 16)) text (digit_ascii (byte % 16) (omega arith)) ascii)

pub pair_ascii : (byte : ℕ) → byte < 256 → IsAscii (hex_pair byte)
pair_ascii byte lt = pair_before byte [] lt IsAscii-nil

-- bytes, each behind a comma
pub each_ascii : (bytes : List ℕ) → ((k : ℕ) → slice_index bytes k < 256) → IsAscii (more_runs (map byte_alone bytes))
each_ascii [] fits = IsAscii-nil
each_ascii (byte ∷ bytes) fits =
    let lt : byte < 256 = fits 0 in
    let behind = more_runs (map byte_alone bytes) in
    IsAscii-cons 44 (hex_pair byte ++ behind) (omega arith) (pair_before byte behind lt (each_ascii bytes (λ k. fits (suc k))))
