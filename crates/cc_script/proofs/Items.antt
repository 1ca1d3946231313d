-- The bytes of a word's items.
use Rattle.std.proofs.Common.{◌≡◌, ℕ, ◌+◌, ◌-◌, ◌*◌, ◌/◌, ◌%◌, ◌<◌, ◌≤◌, ◌==◌, Bool, true, false, not, ◌&&◌, Some, List, [], ◌∷◌, ◌++◌, length, replicate, map, nat_lt, nat_le, codes, refl, ap, sym, ◌∙◌, append_assoc, arith, length-append}
use Rattle.std.specs.List.{join_with_byte, list_all, flat_map}
use Rattle.std.specs.Char.{is_ascii_digit}
use Rattle.std.specs.Str.{all_ascii_digits, bytes_eq}
use Rattle.std.specs.Fmt.{decimal, digit_glyph}
use Rattle.std.proofs.lemmas.List.{append-nil, length-replicate}
use Rattle.std.proofs.lemmas.Bool.Decides.{nat_tests}
use Rattle.std.proofs.lemmas.Fmt.{digits_decimal}
use Rattle.std.proofs.lemmas.Str.Parse.{numerals_by_value, tells_all_ascii_digits}
use Rattle.cc_script.specs.Text.{parts}
use Rattle.cc_script.specs.Words.{parsed_number, number_between, parsed_hex_digit, parsed_pair, with_bytes, pair_onto, pairs_onto, run_onto, item_onto, items_onto, parsed_bytes}
use Rattle.cc_script.specs.Laws.{Item, Pairs, Times, pair_text, item_text, item_bytes, items_bytes, IsItem, AreItems}
use Rattle.cc_script.proofs.Numbers.{number_of-decimal}

-- a digit's glyph lies from `0` to `F`, and is read as the digit
glyph_low : (d : ℕ) → d < 16 → 48 ≤ digit_glyph true d
glyph_low d h = grind (arith, nat_tests)

glyph_high : (d : ℕ) → d < 16 → digit_glyph true d ≤ 70
glyph_high d h = grind (arith, nat_tests)

glyph_read : (d : ℕ) → d < 16 → parsed_hex_digit (digit_glyph true d) ≡ Some d
glyph_read d h = either (nat_lt d 10) refl
  where
    either : (t : Bool) → nat_lt d 10 ≡ t → parsed_hex_digit (digit_glyph true d) ≡ Some d
    either true e =
        let l : d < 10 = grind (arith, nat_tests) in
        let digit : is_ascii_digit (48 + d) ≡ true = grind (arith, nat_tests) in
        let z : 48 + d - 48 ≡ d = omega arith in
        simp (e, digit, z)
    either false e =
        let l : 10 ≤ d = grind (arith, nat_tests) in
        let no_digit : is_ascii_digit (55 + d) ≡ false = grind (arith, nat_tests) in
        let low : nat_le 65 (55 + d) ≡ true = grind (arith, nat_tests) in
        let high : nat_le (55 + d) 70 ≡ true = grind (arith, nat_tests) in
        let z : 55 + d - 55 ≡ d = omega arith in
        simp (e, no_digit, low, high, z)

pair_read : (b : ℕ) → b < 256 → parsed_pair (digit_glyph true (b / 16)) (digit_glyph true (b % 16)) ≡ Some b
unfolding parsed_pair
pair_read b h =
    let high : parsed_hex_digit (digit_glyph true (b / 16)) ≡ Some (b / 16) = glyph_read (b / 16) (omega arith) in
    let low : parsed_hex_digit (digit_glyph true (b % 16)) ≡ Some (b % 16) = glyph_read (b % 16) (omega arith) in
    let whole : 16 * (b / 16) + b % 16 ≡ b = omega arith in
    rw (high, low) (ap Some whole)

with_read : (before : List ℕ) (b n : ℕ) → length before + n ≤ 2097152 → with_bytes before b n ≡ Some (before ++ replicate n b)
unfolding with_bytes
with_read before b n h = let t : nat_le (length before + n) 2097152 ≡ true = grind (arith, nat_tests) in simp t

pair_added : (before : List ℕ) (b : ℕ) → b < 256 → length before + 1 ≤ 2097152 → pair_onto before (digit_glyph true (b / 16)) (digit_glyph true (b % 16)) ≡ Some (before ++ b ∷ [])
unfolding pair_onto
pair_added before b small room = rw (pair_read b small) (with_read before b 1 room)

pairs_read : (bytes before : List ℕ) → list_all (λ b. nat_lt b 256) bytes ≡ true → length before + length bytes ≤ 2097152 → pairs_onto before (flat_map pair_text bytes) ≡ Some (before ++ bytes)
unfolding pairs_onto
pairs_read [] before all room = ap Some (sym (append-nil before))
pairs_read (b ∷ bytes) before all room = either (nat_lt b 256) refl all (pairs_read bytes (before ++ b ∷ []))
  where
    either : (t : Bool) → nat_lt b 256 ≡ t → (t && list_all (λ b. nat_lt b 256) bytes) ≡ true → (list_all (λ b. nat_lt b 256) bytes ≡ true → length (before ++ b ∷ []) + length bytes ≤ 2097152 → pairs_onto (before ++ b ∷ []) (flat_map pair_text bytes) ≡ Some ((before ++ b ∷ []) ++ bytes)) → pairs_onto before (flat_map pair_text (b ∷ bytes)) ≡ Some (before ++ b ∷ bytes)
    either true e g more =
        let small : b < 256 = grind (arith, nat_tests) in
        let step : pair_onto before (digit_glyph true (b / 16)) (digit_glyph true (b % 16)) ≡ Some (before ++ b ∷ []) = pair_added before b small (omega arith) in
        let len : length (before ++ b ∷ []) ≡ length before + 1 = length-append before (b ∷ []) in
        rw step (more g (omega (arith, len)) ∙ ap Some (append_assoc before (b ∷ []) bytes))
    either false e g more = absurd (cc)

between_read : (n : ℕ) → 0 < n → n ≤ 2097152 → number_between 1 2097152 (decimal n) ≡ Some n
unfolding number_between
between_read n low high =
    let read : parsed_number (decimal n) ≡ Some n = number_of-decimal n (omega arith) in
    let s : nat_le 1 n ≡ true = grind (arith, nat_tests) in
    let t : nat_le n 2097152 ≡ true = grind (arith, nat_tests) in
    rw read (simp (s, t))

run_read : (before : List ℕ) (b n : ℕ) → b < 256 → 0 < n → length before + n ≤ 2097152 → run_onto before (digit_glyph true (b / 16)) (digit_glyph true (b % 16)) (decimal n) ≡ Some (before ++ replicate n b)
unfolding run_onto
run_read before b n small some room = rw (pair_read b small, between_read n some (omega arith)) (with_read before b n room)

-- an item is read as its bytes
item_read : (i : Item) (before : List ℕ) → IsItem i → length before + length (item_bytes i) ≤ 2097152 → item_onto before (item_text i) ≡ Some (before ++ item_bytes i)
unfolding item_onto
item_read (Pairs []) before h room = absurd (omega (arith, h.0))
item_read (Pairs (b ∷ [])) before h room = pairs_read (b ∷ []) before h.1 room
item_read (Pairs (b ∷ c ∷ more)) before h room = either (nat_lt c 256) refl (nat_lt b 256) refl h.1
  where
    either : (t : Bool) → nat_lt c 256 ≡ t → (s : Bool) → nat_lt b 256 ≡ s → (s && (t && list_all (λ b. nat_lt b 256) more)) ≡ true → item_onto before (item_text (Pairs (b ∷ c ∷ more))) ≡ Some (before ++ b ∷ c ∷ more)
    either true e s f g =
        let small : c < 256 = grind (arith, nat_tests) in
        let high : digit_glyph true (c / 16) ≤ 70 = glyph_high (c / 16) (omega arith) in
        let no_run : (digit_glyph true (c / 16) == 120) ≡ false = grind (arith, nat_tests, high) in
        simp no_run (pairs_read (b ∷ c ∷ more) before h.1 room)
    either false e true f g = absurd (cc)
    either false e false f g = absurd (cc)
item_read (Times b n) before h room = run_read before b n h.0 h.1 (omega (arith, length-replicate n b))

items_read : (items : List Item) (before : List ℕ) → AreItems items → length before + length (items_bytes items) ≤ 2097152 → items_onto before (map item_text items) ≡ Some (before ++ items_bytes items)
unfolding items_onto
items_read [] before h room = ap Some (sym (append-nil before))
items_read (i ∷ items) before h room =
    let len : length (item_bytes i ++ items_bytes items) ≡ length (item_bytes i) + length (items_bytes items) = length-append (item_bytes i) (items_bytes items) in
    let one : item_onto before (item_text i) ≡ Some (before ++ item_bytes i) = item_read i before h.0 (omega (arith, len)) in
    let now : length (before ++ item_bytes i) ≡ length before + length (item_bytes i) = length-append before (item_bytes i) in
    rw one (items_read items (before ++ item_bytes i) h.1 (omega (arith, len, now)) ∙ ap Some (append_assoc before (item_bytes i) (items_bytes items)))

-- no item has a comma
abbrev has_no_comma : List ℕ → Bool
has_no_comma text = list_all (λ b. not (b == 44)) text

has_no_comma-append : (a b : List ℕ) → has_no_comma a ≡ true → has_no_comma b ≡ true → has_no_comma (a ++ b) ≡ true
has_no_comma-append [] b g h = h
has_no_comma-append (x ∷ a) b g h = either (x == 44) refl g (λ k. has_no_comma-append a b k h)
  where
    either : (t : Bool) → (x == 44) ≡ t → (not t && has_no_comma a) ≡ true → (has_no_comma a ≡ true → has_no_comma (a ++ b) ≡ true) → has_no_comma (x ∷ a ++ b) ≡ true
    either true e k more = absurd (cc)
    either false e k more = simp (e, more k)

digits-have_no_comma : (ds : List ℕ) → all_ascii_digits ds ≡ true → has_no_comma ds ≡ true
digits-have_no_comma [] h = refl
digits-have_no_comma (d ∷ ds) h = either (is_ascii_digit d) refl h (digits-have_no_comma ds)
  where
    either : (t : Bool) → is_ascii_digit d ≡ t → (t && all_ascii_digits ds) ≡ true → (all_ascii_digits ds ≡ true → has_no_comma ds ≡ true) → has_no_comma (d ∷ ds) ≡ true
    either true e k more =
        let other : (d == 44) ≡ false = grind (arith, nat_tests) in simp (other, more k)
    either false e k more = absurd (cc)

pair-has_no_comma : (b : ℕ) → b < 256 → has_no_comma (pair_text b) ≡ true
pair-has_no_comma b h =
    let high : 48 ≤ digit_glyph true (b / 16) = glyph_low (b / 16) (omega arith) in
    let low : 48 ≤ digit_glyph true (b % 16) = glyph_low (b % 16) (omega arith) in
    let s : (digit_glyph true (b / 16) == 44) ≡ false = grind (arith, nat_tests, high) in
    let t : (digit_glyph true (b % 16) == 44) ≡ false = grind (arith, nat_tests, low) in
    simp (s, t)

pairs-have_no_comma : (bytes : List ℕ) → list_all (λ b. nat_lt b 256) bytes ≡ true → has_no_comma (flat_map pair_text bytes) ≡ true
pairs-have_no_comma [] h = refl
pairs-have_no_comma (b ∷ bytes) h = either (nat_lt b 256) refl h (pairs-have_no_comma bytes)
  where
    either : (t : Bool) → nat_lt b 256 ≡ t → (t && list_all (λ b. nat_lt b 256) bytes) ≡ true → (list_all (λ b. nat_lt b 256) bytes ≡ true → has_no_comma (flat_map pair_text bytes) ≡ true) → has_no_comma (flat_map pair_text (b ∷ bytes)) ≡ true
    either true e k more = has_no_comma-append (pair_text b) (flat_map pair_text bytes) (pair-has_no_comma b (grind (arith, nat_tests))) (more k)
    either false e k more = absurd (cc)

item-has_no_comma : (i : Item) → IsItem i → length (item_bytes i) ≤ 2097152 → has_no_comma (item_text i) ≡ true
item-has_no_comma (Pairs bytes) h room = pairs-have_no_comma bytes h.1
item-has_no_comma (Times b n) h room =
    let digits : all_ascii_digits (decimal n) ≡ true = digits_decimal (numerals_by_value _ tells_all_ascii_digits) n (omega (arith, length-replicate n b)) in
    has_no_comma-append (pair_text b) (120 ∷ decimal n) (pair-has_no_comma b h.0) (digits-have_no_comma (decimal n) digits)

split_front : (xs ys : List ℕ) → has_no_comma xs ≡ true → parts 44 (xs ++ 44 ∷ ys) ≡ xs ∷ parts 44 ys
split_front [] ys h = refl
split_front (x ∷ xs) ys h = either (x == 44) refl h (split_front xs ys)
  where
    either : (t : Bool) → (x == 44) ≡ t → (not t && has_no_comma xs) ≡ true → (has_no_comma xs ≡ true → parts 44 (xs ++ 44 ∷ ys) ≡ xs ∷ parts 44 ys) → parts 44 (x ∷ xs ++ 44 ∷ ys) ≡ (x ∷ xs) ∷ parts 44 ys
    either true e k more = absurd (cc)
    either false e k more = simp (e, more k)

split_only : (xs : List ℕ) → has_no_comma xs ≡ true → parts 44 xs ≡ xs ∷ []
split_only [] h = refl
split_only (x ∷ xs) h = either (x == 44) refl h (split_only xs)
  where
    either : (t : Bool) → (x == 44) ≡ t → (not t && has_no_comma xs) ≡ true → (has_no_comma xs ≡ true → parts 44 xs ≡ xs ∷ []) → parts 44 (x ∷ xs) ≡ (x ∷ xs) ∷ []
    either true e k more = absurd (cc)
    either false e k more = simp (e, more k)

-- the parts of joined items are the items
parts_joined : (items : List Item) → 0 < length items → AreItems items → length (items_bytes items) ≤ 2097152 → parts 44 (join_with_byte 44 (map item_text items)) ≡ map item_text items
parts_joined [] some h room = absurd (omega arith)
parts_joined (i ∷ []) some h room =
    split_only (item_text i) (item-has_no_comma i h.0 (omega (arith, length-append (item_bytes i) [])))
parts_joined (i ∷ j ∷ items) some h room =
    let len : length (item_bytes i ++ items_bytes (j ∷ items)) ≡ length (item_bytes i) + length (items_bytes (j ∷ items)) = length-append (item_bytes i) (items_bytes (j ∷ items)) in
    split_front (item_text i) (join_with_byte 44 (map item_text (j ∷ items))) (item-has_no_comma i h.0 (omega (arith, len)))
    ∙ ap (item_text i ∷◌) (parts_joined (j ∷ items) (omega arith) h.1 (omega (arith, len)))

-- a list of items doesn't begin with `-`
first_pair : (i : Item) → IsItem i → (b : ℕ) × (more : List ℕ) × (item_text i ≡ pair_text b ++ more) × (b < 256)
first_pair (Pairs []) h = absurd (omega (arith, h.0))
first_pair (Pairs (b ∷ bytes)) h = (b, flat_map pair_text bytes, refl, byte (nat_lt b 256) refl h.1)
  where
    byte : (t : Bool) → nat_lt b 256 ≡ t → (t && list_all (λ b. nat_lt b 256) bytes) ≡ true → b < 256
    byte true e g = grind (arith, nat_tests)
    byte false e g = absurd (cc)
first_pair (Times b n) h = (b, 120 ∷ decimal n, refl, h.0)

no_dash : (b : ℕ) (more : List ℕ) → b < 256 → bytes_eq (pair_text b ++ more) (codes "-") ≡ false
no_dash b more h =
    let low : 48 ≤ digit_glyph true (b / 16) = glyph_low (b / 16) (omega arith) in
    let t : (digit_glyph true (b / 16) == 45) ≡ false = grind (arith, nat_tests, low) in
    simp t

no_dash_joined : (items : List Item) → 0 < length items → AreItems items → bytes_eq (join_with_byte 44 (map item_text items)) (codes "-") ≡ false
no_dash_joined [] some h = absurd (omega arith)
no_dash_joined (i ∷ []) some h = let f = first_pair i h.0 in rw f.2 (no_dash f.0 f.1 f.3)
no_dash_joined (i ∷ j ∷ items) some h =
    let f = first_pair i h.0 in
    let rest = join_with_byte 44 (map item_text (j ∷ items)) in
    rw f.2 (no_dash f.0 (f.1 ++ 44 ∷ rest) f.3)

pub items_spell : (items : List Item) → 0 < length items → AreItems items → length (items_bytes items) ≤ 2097152 → parsed_bytes (join_with_byte 44 (map item_text items)) ≡ Some (items_bytes items)
unfolding parsed_bytes
items_spell items some h room =
    simp (no_dash_joined items some h) (rw (parts_joined items some h room) (items_read items [] h (omega arith)))
