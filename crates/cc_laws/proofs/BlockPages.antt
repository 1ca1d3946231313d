-- Distinct pages in few blocks are few.
use Rattle.std.specs.Prelude.{◌≡◌, ℕ, zero, suc, ◌+◌, ◌*◌, ◌<◌, ◌≤◌, Bool, true, false, cond, ◌||◌, ◌==◌, nat_eq, nat_lt, List, [], ◌∷◌, ◌++◌, length, map, refl}
use Rattle.std.proofs.Common.{ap, sym, ◌∙◌, arith, mul-zero, mul-suc, length-append}
use Rattle.std.proofs.lemmas.Bool.{or_left, or_right, ltb-true, ltb-false, eqb-true, eqb-false, eq-eqb, ne_eqb}
use Rattle.std.proofs.lemmas.List.Folds.{list_any-append}
use Rattle.std.proofs.lemmas.List.FromFn.{length-range_with_len}
use Rattle.std.proofs.lemmas.Map.Made.{length-le_from_is_member}
use Rattle.std.specs.Cmp.{nat_eq_equiv}
use Rattle.std.specs.List.{range_with_len, filter, IsDistinct, AllByRecursion}
use Rattle.std.specs.Set.{distinct_count, is_member, unique_keys}
use Rattle.cc_entry.specs.Pages.{block_of}
use Rattle.cc_model.specs.Numbers.{is_among, placed, ascending}
use Rattle.cc_laws.proofs.BlockLists.{same-flip}

-- ascending lists keep each number once
abbrev pub Above : ℕ → List ℕ → Type 0
Above n ns = AllByRecursion (λ m. n < m) ns

abbrev pub Rises : List ℕ → Type 0
Rises [] = Unit {0}
Rises (n ∷ ns) = Above n ns × Rises ns

pub above-less : (k n : ℕ) (ns : List ℕ) → k < n → Above n ns → Above k ns
above-less k n [] less above = tt
above-less k n (m ∷ ns) less above = let first : n < m = above.0 in (omega arith, above-less k n ns less above.1)

pub above-placed : (k n : ℕ) (ns : List ℕ) → k < n → Above k ns → Above k (placed n ns)
above-placed k n [] less above = (less, tt)
above-placed k n (m ∷ ns) less above = go (nat_lt n m) (m == n) (above-placed k n ns less above.1)
  where
    go : (t u : Bool) → Above k (placed n ns) → Above k (cond t (n ∷ m ∷ ns) (cond u (m ∷ ns) (m ∷ placed n ns)))
    go true u rest = (less, above)
    go false true rest = above
    go false false rest = (above.0, rest)

pub rises-placed : (n : ℕ) (ns : List ℕ) → Rises ns → Rises (placed n ns)
rises-placed n [] rises = (tt, tt)
rises-placed n (m ∷ ns) rises = go (nat_lt n m) refl (m == n) refl (rises-placed n ns rises.1)
  where
    go : (t : Bool) → nat_lt n m ≡ t → (u : Bool) → (m == n) ≡ u → Rises (placed n ns) → Rises (cond t (n ∷ m ∷ ns) (cond u (m ∷ ns) (m ∷ placed n ns)))
    go true is u same rest = let less : n < m = ltb-true n m is in ((less, above-less n m ns less rises.0), rises)
    go false is true same rest = rises
    go false is false same rest =
        let low : m ≤ n = ltb-false n m is in
        let less : m < n = below m n low (eqb-false m n same) in
        (above-placed m n ns less rises.0, rest)
      where
        below : (a b : ℕ) → a ≤ b → (a ≡ b → ⊥) → a < b
        below a b low apart = omega arith

pub rises-ascending : (ns : List ℕ) → Rises (ascending ns)
rises-ascending [] = tt
rises-ascending (n ∷ ns) = rises-placed n (ascending ns) (rises-ascending ns)

pub above-filter : (test : ℕ → Bool) (k : ℕ) (ns : List ℕ) → Above k ns → Above k (filter test ns)
above-filter test k [] above = tt
above-filter test k (n ∷ ns) above = go (test n) (above-filter test k ns above.1)
  where
    go : (t : Bool) → Above k (filter test ns) → Above k (cond t (n ∷ filter test ns) (filter test ns))
    go true rest = (above.0, rest)
    go false rest = rest

pub rises-filter : (test : ℕ → Bool) (ns : List ℕ) → Rises ns → Rises (filter test ns)
rises-filter test [] rises = tt
rises-filter test (n ∷ ns) rises = go (test n) (rises-filter test ns rises.1)
  where
    go : (t : Bool) → Rises (filter test ns) → Rises (cond t (n ∷ filter test ns) (filter test ns))
    go true rest = (above-filter test n ns rises.0, rest)
    go false rest = rest

pub apart-above : (n : ℕ) (ns : List ℕ) → Above n ns → AllByRecursion (λ m. nat_eq n m ≡ false) ns
apart-above n [] above = tt
apart-above n (m ∷ ns) above = let less : n < m = above.0 in (ne_eqb n m (λ e. omega arith), apart-above n ns above.1)

pub IsDistinct-rises : (ns : List ℕ) → Rises ns → IsDistinct nat_eq ns
unfolding IsDistinct
IsDistinct-rises [] rises = tt
IsDistinct-rises (n ∷ ns) rises = (apart-above n ns rises.0, IsDistinct-rises ns rises.1)

pub IsDistinct-ascending : (ns : List ℕ) → IsDistinct nat_eq (ascending ns)
IsDistinct-ascending ns = IsDistinct-rises (ascending ns) (rises-ascending ns)

-- two ways to say that a number is in a list
pub is_member-among : (q : ℕ) (ns : List ℕ) → is_member nat_eq ns q ≡ is_among q ns
is_member-among q [] = refl
is_member-among q (n ∷ ns) = rw (same-flip q n) (ap (λ t. (n == q) || t) (is_member-among q ns))

is_member-unique : (q : ℕ) (ns : List ℕ) → is_member nat_eq ns q ≡ true → is_member nat_eq (unique_keys nat_eq ns) q ≡ true
is_member-unique q [] is = is
is_member-unique q (n ∷ ns) is = go (is_member nat_eq ns n) refl (nat_eq q n) refl is (is_member-unique q ns)
  where
    go : (t : Bool) → is_member nat_eq ns n ≡ t → (u : Bool) → nat_eq q n ≡ u → (u || is_member nat_eq ns q) ≡ true → (is_member nat_eq ns q ≡ true → is_member nat_eq (unique_keys nat_eq ns) q ≡ true) → is_member nat_eq (cond t (unique_keys nat_eq ns) (n ∷ unique_keys nat_eq ns)) q ≡ true
    go true again true same is rest = rest (ap (is_member nat_eq ns) (eqb-true q n same) ∙ again)
    go true again false same is rest = rest is
    go false first true same is rest = or_left _ _ same
    go false first false same is rest = or_right (nat_eq q n) _ (rest is)

is_member-map : (q : ℕ) (ns : List ℕ) → is_member nat_eq ns q ≡ true → is_member nat_eq (map block_of ns) (block_of q) ≡ true
is_member-map q [] is = absurd (cc)
is_member-map q (n ∷ ns) is = go (nat_eq q n) refl is (is_member-map q ns)
  where
    go : (u : Bool) → nat_eq q n ≡ u → (u || is_member nat_eq ns q) ≡ true → (is_member nat_eq ns q ≡ true → is_member nat_eq (map block_of ns) (block_of q) ≡ true) → (nat_eq (block_of q) (block_of n) || is_member nat_eq (map block_of ns) (block_of q)) ≡ true
    go true same is rest = or_left _ _ (eq-eqb (block_of q) (block_of n) (ap block_of (eqb-true q n same)))
    go false same is rest = or_right (nat_eq (block_of q) (block_of n)) _ (rest is)

-- the pages of blocks of a size
abbrev pages_in : ℕ → List ℕ → List ℕ
pages_in size [] = []
pages_in size (b ∷ bs) = range_with_len (size * b) size ++ pages_in size bs

length-pages_in : (size : ℕ) (bs : List ℕ) → length (pages_in size bs) ≡ size * length bs
length-pages_in size [] = sym (mul-zero size)
length-pages_in size (b ∷ bs) = length-append (range_with_len (size * b) size) (pages_in size bs) ∙ (ap (λ n. n + length (pages_in size bs)) (length-range_with_len (size * b) size) ∙ (ap (λ n. size + n) (length-pages_in size bs) ∙ one_more size (length bs)))
  where
    one_more : (m n : ℕ) → m + m * n ≡ m * suc n
    one_more m n = omega (arith, mul-suc m n)

is_member-append : (q : ℕ) (ns ms : List ℕ) → is_member nat_eq (ns ++ ms) q ≡ (is_member nat_eq ns q || is_member nat_eq ms q)
is_member-append q ns ms = list_any-append (nat_eq q) ns ms

is_member-range : (q from len : ℕ) → from ≤ q → q < from + len → is_member nat_eq (range_with_len from len) q ≡ true
is_member-range q from zero low high = absurd (omega arith)
is_member-range q from (suc len) low high = go (nat_eq q from) refl (is_member-range q (from + 1) len)
  where
    go : (t : Bool) → nat_eq q from ≡ t → (from + 1 ≤ q → q < (from + 1) + len → is_member nat_eq (range_with_len (from + 1) len) q ≡ true) → (nat_eq q from || is_member nat_eq (range_with_len (from + 1) len) q) ≡ true
    go true same rest = or_left _ _ same
    go false other rest =
        let apart : q ≡ from → ⊥ = eqb-false q from other in
        or_right (nat_eq q from) _ (rest (omega arith) (omega arith))

is_member-pages_in : (size q b : ℕ) (bs : List ℕ) → size * b ≤ q → q < size * b + size → is_member nat_eq bs b ≡ true → is_member nat_eq (pages_in size bs) q ≡ true
is_member-pages_in size q b [] low high is = absurd (cc)
is_member-pages_in size q b (c ∷ bs) low high is = is_member-append q (range_with_len (size * c) size) (pages_in size bs) ∙ go (nat_eq b c) refl is (is_member-pages_in size q b bs low high)
  where
    go : (t : Bool) → nat_eq b c ≡ t → (t || is_member nat_eq bs b) ≡ true → (is_member nat_eq bs b ≡ true → is_member nat_eq (pages_in size bs) q ≡ true) → (is_member nat_eq (range_with_len (size * c) size) q || is_member nat_eq (pages_in size bs) q) ≡ true
    go true same is rest = or_left _ _ (ap (λ d. is_member nat_eq (range_with_len (size * d) size) q) (sym (eqb-true b c same)) ∙ is_member-range q (size * b) size low high)
    go false same is rest = or_right (is_member nat_eq (range_with_len (size * c) size) q) _ (rest is)

-- distinct pages, each in a block that one of the others has, are at most 64 for each block
pages_few : (size : ℕ) (ps bs : List ℕ) → IsDistinct nat_eq ps → ((q : ℕ) → is_member nat_eq ps q ≡ true → is_member nat_eq (pages_in size bs) q ≡ true) → length ps ≤ size * length bs
pages_few size ps bs distinct within =
    let few : length ps ≤ length (pages_in size bs) = length-le_from_is_member nat_eq_equiv ps (pages_in size bs) distinct within in
    let long : length (pages_in size bs) ≡ size * length bs = length-pages_in size bs in
    omega arith

pub length-within_blocks : (ps rs : List ℕ) → IsDistinct nat_eq ps → ((q : ℕ) → is_member nat_eq ps q ≡ true → is_member nat_eq rs q ≡ true) → length ps ≤ 64 * distinct_count nat_eq (map block_of rs)
length-within_blocks ps rs distinct within = pages_few 64 ps (unique_keys nat_eq (map block_of rs)) distinct each
  where
    each : (q : ℕ) → is_member nat_eq ps q ≡ true → is_member nat_eq (pages_in 64 (unique_keys nat_eq (map block_of rs))) q ≡ true
    each q is = is_member-pages_in 64 q (block_of q) (unique_keys nat_eq (map block_of rs)) (omega arith) (omega arith) (is_member-unique (block_of q) (map block_of rs) (is_member-map q rs (within q is)))
