-- A number's word is its decimal text.
use Rattle.std.proofs.Common.{◌≡◌, ℕ, zero, suc, ◌+◌, ◌-◌, ◌*◌, ◌^◌, ◌<◌, ◌≤◌, ◌==◌, Bool, true, false, ◌&&◌, Some, None, List, [], ◌∷◌, length, get_or, map, nat_lt, if◌then◌else◌, refl, ap, sym, ◌∙◌, lit<, lit≤, arith, rules}
use Rattle.std.specs.Char.{is_ascii_digit}
use Rattle.std.specs.Str.{all_ascii_digits}
use Rattle.std.specs.Fmt.{decimal}
use Rattle.std.specs.Int.Digits.{digits_of}
use Rattle.std.proofs.lemmas.Bool.Decides.{nat_tests}
use Rattle.std.proofs.lemmas.Int.Digits.{first_digits_of}
use Rattle.std.proofs.lemmas.Str.Parse.{IsNumeralModel, numerals_by_fold, tells_all_ascii_digits}
use Rattle.std.proofs.lemmas.Fmt.{digits_decimal, digits_value-decimal, decimal-digits_value, decimal_digit, decimal-digits_of}
use Rattle.cc_script.specs.Words.{parsed_number, number_onto}

-- digits read from the left, after the number so far
abbrev read_on : ℕ → List ℕ → ℕ
read_on n [] = n
read_on n (c ∷ cs) = read_on (n * 10 + (c - 48)) cs

own : IsNumeralModel (λ ds. all_ascii_digits ds ≡ true) (read_on 0)
own = numerals_by_fold _ tells_all_ascii_digits read_on (search rules)

-- what a word's digits give
record Read (n m : ℕ) (ds : List ℕ) : Type 0 where
  digits : all_ascii_digits ds ≡ true
  value : read_on n ds ≡ m
  small : m < 2 ^ 64

read_from : (n m : ℕ) (ds : List ℕ) → n < 2 ^ 64 → number_onto n ds ≡ Some m → Read n m ds
read_from n m [] l h = let e : n ≡ m = cc in record { digits = refl; value = e; small = omega (arith, e) }
read_from n m (d ∷ ds) l h = either (is_ascii_digit d) (nat_lt (n * 10 + (d - 48)) (2 ^ 64)) refl refl h (λ k j. read_from (n * 10 + (d - 48)) m ds k j)
  where
    either : (s t : Bool) → is_ascii_digit d ≡ s → nat_lt (n * 10 + (d - 48)) (2 ^ 64) ≡ t → (if s && t then number_onto (n * 10 + (d - 48)) ds else None) ≡ Some m → (n * 10 + (d - 48) < 2 ^ 64 → number_onto (n * 10 + (d - 48)) ds ≡ Some m → Read (n * 10 + (d - 48)) m ds) → Read n m (d ∷ ds)
    either true true e f g more =
        let k : n * 10 + (d - 48) < 2 ^ 64 = grind (arith, nat_tests) in
        let r = more k g in
        record { digits = simp (e, r.digits); value = r.value; small = r.small }
    either true false e f g more = absurd (cc)
    either false t e f g more = absurd (cc)

-- no digit makes the number less
read_on-le : (n : ℕ) (ds : List ℕ) → n ≤ read_on n ds
read_on-le n [] = omega arith
read_on-le n (d ∷ ds) = let h : n * 10 + (d - 48) ≤ read_on (n * 10 + (d - 48)) ds = read_on-le (n * 10 + (d - 48)) ds in omega (arith, h)

read_digits : (n : ℕ) (ds : List ℕ) → all_ascii_digits ds ≡ true → read_on n ds < 2 ^ 64 → number_onto n ds ≡ Some (read_on n ds)
read_digits n [] p h = refl
read_digits n (d ∷ ds) p h = either (is_ascii_digit d) refl p (λ q. read_digits (n * 10 + (d - 48)) ds q h)
  where
    either : (s : Bool) → is_ascii_digit d ≡ s → (s && all_ascii_digits ds) ≡ true → (all_ascii_digits ds ≡ true → number_onto (n * 10 + (d - 48)) ds ≡ Some (read_on n (d ∷ ds))) → number_onto n (d ∷ ds) ≡ Some (read_on n (d ∷ ds))
    either true e q more =
        let l : n * 10 + (d - 48) ≤ read_on (n * 10 + (d - 48)) ds = read_on-le (n * 10 + (d - 48)) ds in
        let t : nat_lt (n * 10 + (d - 48)) (2 ^ 64) ≡ true = grind (arith, nat_tests) in
        simp (e, t, more q)
    either false e q more = absurd (cc)

-- a number's word has the decimal text
pub decimal-number_of : (word : List ℕ) (n : ℕ) → parsed_number word ≡ Some n → (n < 2 ^ 64) × (word ≡ decimal n)
unfolding parsed_number
decimal-number_of [] n h = absurd (cc)
decimal-number_of (d ∷ ds) n h = either (d == 48) (nat_lt 0 (length ds)) refl refl h
  where
    read : (get_or (d ∷ ds) 0 0 ≡ 48 → length (d ∷ ds) ≡ 1) → number_onto 0 (d ∷ ds) ≡ Some n → (n < 2 ^ 64) × (d ∷ ds ≡ decimal n)
    read lead g =
        let r = read_from 0 n (d ∷ ds) (lit< tt) g in
        let small : read_on 0 (d ∷ ds) < 2 ^ 64 = omega (arith, r.value, r.small) in
        let text : decimal (read_on 0 (d ∷ ds)) ≡ d ∷ ds = decimal-digits_value own (d ∷ ds) r.digits (omega arith) lead small in
        (r.small, sym text ∙ ap decimal r.value)

    either : (s t : Bool) → (d == 48) ≡ s → nat_lt 0 (length ds) ≡ t → (if s && t then None else number_onto 0 (d ∷ ds)) ≡ Some n → (n < 2 ^ 64) × (d ∷ ds ≡ decimal n)
    either true true e f g = absurd (cc)
    either true false e f g = read (λ _. let z : length ds ≡ 0 = grind (arith, nat_tests) in omega (arith, z)) g
    either false t e f g = read (λ z. absurd (grind (arith, nat_tests))) g

-- digits without a leading zero are a number's word
number_of-digits : (ds : List ℕ) → 0 < length ds → (get_or ds 0 0 ≡ 48 → length ds ≡ 1) → all_ascii_digits ds ≡ true → read_on 0 ds < 2 ^ 64 → parsed_number ds ≡ Some (read_on 0 ds)
unfolding parsed_number
number_of-digits [] l lead p h = absurd (omega arith)
number_of-digits (d ∷ ds) l lead p h = either (d == 48) refl
  where
    either : (s : Bool) → (d == 48) ≡ s → (if s && nat_lt 0 (length ds) then None else number_onto 0 (d ∷ ds)) ≡ Some (read_on 0 (d ∷ ds))
    either true e =
        let z : d ≡ 48 = grind (arith, nat_tests) in
        let one : length (d ∷ ds) ≡ 1 = lead z in
        let t : nat_lt 0 (length ds) ≡ false = grind (arith, nat_tests, one) in
        simp t (read_digits 0 (d ∷ ds) p h)
    either false e = read_digits 0 (d ∷ ds) p h

pub number_of-decimal : (n : ℕ) → n < 2 ^ 64 → parsed_number (decimal n) ≡ Some n
number_of-decimal zero h = rw (decimal_digit 0 (lit< tt)) (number_of-digits (48 ∷ []) (lit< tt) (λ _. refl) refl (lit< tt))
number_of-decimal (suc k) h =
    let text : decimal (suc k) ≡ map (λ d. 48 + d) (digits_of 10 (suc k)) = decimal-digits_of (suc k) (omega arith) h in
    let first : 0 < get_or (digits_of 10 (suc k)) 0 0 = first_digits_of 10 (suc k) (lit≤ tt) (omega arith) in
    let lead = glyph_leads (digits_of 10 (suc k)) first in
    let value : read_on 0 (decimal (suc k)) ≡ suc k = digits_value-decimal own (suc k) h in
    let read : parsed_number (decimal (suc k)) ≡ Some (read_on 0 (decimal (suc k))) =
    number_of-digits (decimal (suc k)) (rw text lead.0) (λ z. absurd (lead.1 (ap (λ (t : List ℕ). get_or t 0 0) (sym text) ∙ z))) (digits_decimal own (suc k) h) (omega (arith, value)) in
    read ∙ ap Some value
  where
    glyph_leads : (xs : List ℕ) → 0 < get_or xs 0 0 → (0 < length (map (λ d. 48 + d) xs)) × (get_or (map (λ d. 48 + d) xs) 0 0 ≡ 48 → ⊥)
    glyph_leads [] l = absurd (omega arith)
    glyph_leads (x ∷ xs) l = (omega arith, λ z. omega (arith, z))
