-- What a search finds in a list of numbers, and the pages and blocks of a range.
use Rattle.std.specs.Prelude.{◌≡◌, ℕ, ◌+◌, ◌-◌, ◌*◌, ◌/◌, ◌<◌, ◌≤◌, Bool, true, false, cond, not, ◌||◌, ◌==◌, nat_lt, List, [], ◌∷◌, refl}
use Rattle.std.specs.declared.option.Option.TheVariants.{Some, None}
use Rattle.std.specs.Int.{div_ceil}
use Rattle.std.specs.List.{find}
use Rattle.std.proofs.Common.{ap, sym, ◌∙◌, arith}
use Rattle.std.proofs.lemmas.Bool.{and_parts, or_left, or_right, eqb-true, eq-eqb, ltb-true, lt-ltb}
use Rattle.cc_entry.specs.Place.{Range}
use Rattle.cc_entry.specs.Pages.{has_page, block_of, blocks_of}
use Rattle.cc_model.specs.Numbers.{is_among}
use Rattle.cc_laws.proofs.Lists1.{among-range}
use Rattle.cc_content.proofs.Found.{same_answer}

pub not-true : (b : Bool) → not b ≡ true → b ≡ false
not-true true is = absurd (cc)
not-true false is = refl

-- what is found is in the list
pub found-among : (test : ℕ → Bool) (ns : List ℕ) (n : ℕ) → find test ns ≡ Some n → is_among n ns ≡ true
found-among test [] n found = absurd (cc)
found-among test (m ∷ ns) n found = go (test m) found (found-among test ns n)
  where
    go : (b : Bool) → cond b (Some m) (find test ns) ≡ Some n → (find test ns ≡ Some n → is_among n ns ≡ true) → ((m == n) || is_among n ns) ≡ true
    go true it rest = let same : m ≡ n = cc in or_left _ _ (eq-eqb m n same)
    go false it rest = or_right (m == n) _ (rest it)

-- where nothing is found, each fails
pub none-passes : (test : ℕ → Bool) (ns : List ℕ) (n : ℕ) → find test ns ≡ None → is_among n ns ≡ true → test n ≡ false
none-passes test [] n none among = absurd (cc)
none-passes test (m ∷ ns) n none among = go (test m) refl none (m == n) refl among (none-passes test ns n)
  where
    go : (b : Bool) → test m ≡ b → cond b (Some m) (find test ns) ≡ None → (c : Bool) → (m == n) ≡ c → (c || is_among n ns) ≡ true → (find test ns ≡ None → is_among n ns ≡ true → test n ≡ false) → test n ≡ false
    go true is it c same this rest = absurd (cc)
    go false fails it true same this rest = ap test (sym (eqb-true m n same)) ∙ fails
    go false fails it false other this rest = rest it this

-- a page of a range lies in one of its blocks
pub block-among : (r : Range) (p : ℕ) → has_page r p ≡ true → is_among (block_of p) (blocks_of r) ≡ true
block-among r p has = rw (some, blocks_of) (among-range (p / 64) (r.from / 262144) (((r.to - 1) / 262144 + 1) - r.from / 262144) (low r.from p starts) (high r.from r.to p (ltb-true r.from r.to some) starts ends))
  where
    some : nat_lt r.from r.to ≡ true
    some = (and_parts (nat_lt r.from r.to) _ has).0

    starts : r.from < 4096 * p + 4096
    starts = ltb-true r.from (4096 * p + 4096) (and_parts _ _ (and_parts (nat_lt r.from r.to) _ has).1).0

    ends : 4096 * p < r.to
    ends = ltb-true (4096 * p) r.to (and_parts (nat_lt r.from (4096 * p + 4096)) _ (and_parts (nat_lt r.from r.to) _ has).1).1

    low : (from p : ℕ) → from < 4096 * p + 4096 → from / 262144 ≤ p / 64
    low from p starts = omega arith

    high : (from to p : ℕ) → from < to → from < 4096 * p + 4096 → 4096 * p < to → p / 64 < from / 262144 + (((to - 1) / 262144 + 1) - from / 262144)
    high from to p some starts ends = omega arith

-- a page with bytes of a range begins before its end
pub page-before : (r : Range) (p : ℕ) → has_page r p ≡ true → 4096 * p < r.to
page-before r p has = ltb-true (4096 * p) r.to (and_parts (nat_lt r.from (4096 * p + 4096)) _ (and_parts (nat_lt r.from r.to) _ has).1).1

-- the pages before the last one that a length reaches into are those that begin before its end
pub ceil-page : (page valid : ℕ) → nat_lt page (div_ceil valid 4096) ≡ nat_lt (4096 * page) valid
ceil-page page valid =
    same_answer (nat_lt page (div_ceil valid 4096)) (nat_lt (4096 * page) valid)
    (λ t. lt-ltb (4096 * page) valid (below page valid (ltb-true page (div_ceil valid 4096) t)))
    (λ t. lt-ltb page (div_ceil valid 4096) (above page valid (ltb-true (4096 * page) valid t)))
  where
    below : (p n : ℕ) → p < div_ceil n 4096 → 4096 * p < n
    below p n h = omega arith

    above : (p n : ℕ) → 4096 * p < n → p < div_ceil n 4096
    above p n h = omega arith
