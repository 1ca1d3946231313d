-- Lists of bytes, each of a later page than those before it.
use Rattle.std.specs.Prelude.{◌≡◌, ℕ, zero, suc, ◌+◌, ◌-◌, ◌*◌, ◌/◌, ◌<◌, ◌≤◌, Bool, true, false, cond, ◌==◌, ◌||◌, nat_eq, List, [], ◌∷◌, ◌++◌, length, map, filter, refl, if◌then◌else◌}
use Rattle.std.specs.Cmp.{nat_eq_equiv}
use Rattle.std.specs.List.{list_any, range_with_len, slice_get, AllByRecursion}
use Rattle.std.specs.declared.option.Option.TheVariants.{Some}
use Rattle.std.specs.Set.{is_member}
use Rattle.std.proofs.Common.{ap, sym, subst, ◌∙◌, arith, append_assoc, append-nil}
use Rattle.std.proofs.lemmas.Bool.{or_left, or_right, eqb-true, eq-eqb, ne_eqb}
use Rattle.std.proofs.lemmas.List.{length-map}
use Rattle.std.proofs.lemmas.List.Folds.{list_any-append}
use Rattle.std.proofs.lemmas.List.FromFn.{map-range_with_len_more}
use Rattle.std.proofs.lemmas.Map.Made.{length-le_from_is_member}
use Rattle.cc_model.specs.Cache.{dirty_count}
use Rattle.cc_model.specs.History.{Effect}
use Rattle.cc_model.specs.Numbers.{is_among}
use Rattle.cc_model.specs.Touches.{is_dirty, dirty_pages}
use Rattle.cc_laws.proofs.BlockPages.{Rises, IsDistinct-rises, is_member-among}
use Rattle.cc_laws.proofs.DirtyAmong.{dirty-among}
use Rattle.cc_images.specs.Images.{AscendsByPage}
use Rattle.cc_images.specs.Changes.{has_page_of_bytes, with_page_of, starts}

-- one page more
pub starts-more : (bytes : List ℕ) (from to : ℕ) → from ≤ to → (bytes ++ starts from to) ++ 4096 * to ∷ [] ≡ bytes ++ starts from (to + 1)
starts-more bytes from to within =
    let step : to + 1 - from ≡ (to - from) + 1 = omega arith in
    let more = map-range_with_len_more (λ page. 4096 * page) from (to - from) to (omega arith) in
    let last : starts from (to + 1) ≡ starts from to ++ 4096 * to ∷ [] = ap (λ n. map (λ page. 4096 * page) (range_with_len from n)) step ∙ more in
    append_assoc bytes (starts from to) (4096 * to ∷ []) ∙ sym (ap (λ ns. bytes ++ ns) last)

-- a number of a list that passes a test
pub record IsPassed (test : ℕ → Bool) (ns : List ℕ) : Type 0 where
  pub number : ℕ
  pub among : is_among number ns ≡ true
  pub passes : test number ≡ true

itself : (n : ℕ) → (n == n) ≡ true
itself n = eq-eqb n n refl

pub any-some : (test : ℕ → Bool) (ns : List ℕ) → list_any test ns ≡ true → IsPassed test ns
any-some test [] some = absurd (cc)
any-some test (n ∷ ns) some = go (test n) refl some (any-some test ns)
  where
    go : (b : Bool) → test n ≡ b → (b || list_any test ns) ≡ true → (list_any test ns ≡ true → IsPassed test ns) → IsPassed test (n ∷ ns)
    go true passes it rest = record { number = n; among = or_left _ _ (itself n); passes = passes }
    go false fails it rest = let k = rest it in record { number = k.number; among = or_right (n == k.number) _ k.among; passes = k.passes }

pub any-among : (test : ℕ → Bool) (n : ℕ) (ns : List ℕ) → is_among n ns ≡ true → test n ≡ true → list_any test ns ≡ true
any-among test n [] among passes = absurd (cc)
any-among test n (m ∷ ns) among passes = go (m == n) refl among (any-among test n ns)
  where
    go : (b : Bool) → (m == n) ≡ b → (b || is_among n ns) ≡ true → (is_among n ns ≡ true → test n ≡ true → list_any test ns ≡ true) → (test m || list_any test ns) ≡ true
    go true same it rest = or_left _ _ (ap test (eqb-true m n same) ∙ passes)
    go false other it rest = or_right (test m) _ (rest it passes)

-- a number of two lists one after the other
pub among-append : (n : ℕ) (ms ns : List ℕ) → is_among n (ms ++ ns) ≡ (is_among n ms || is_among n ns)
among-append n ms ns = list_any-append (λ m. m == n) ms ns

-- a number of a list to which each was mapped
pub record IsMapped (f : ℕ → ℕ) (ns : List ℕ) (n : ℕ) : Type 0 where
  pub number : ℕ
  pub among : is_among number ns ≡ true
  pub is : f number ≡ n

pub among-map : (f : ℕ → ℕ) (n : ℕ) (ns : List ℕ) → is_among n (map f ns) ≡ true → IsMapped f ns n
among-map f n [] among = absurd (cc)
among-map f n (m ∷ ns) among = go (f m == n) refl among (among-map f n ns)
  where
    go : (b : Bool) → (f m == n) ≡ b → (b || is_among n (map f ns)) ≡ true → (is_among n (map f ns) ≡ true → IsMapped f ns n) → IsMapped f (m ∷ ns) n
    go true same it rest = record { number = m; among = or_left _ _ (itself m); is = eqb-true (f m) n same }
    go false other it rest = let k = rest it in record { number = k.number; among = or_right (m == k.number) _ k.among; is = k.is }

pub map-among : (f : ℕ → ℕ) (n : ℕ) (ns : List ℕ) → is_among n ns ≡ true → is_among (f n) (map f ns) ≡ true
map-among f n [] among = absurd (cc)
map-among f n (m ∷ ns) among = go (m == n) refl among (map-among f n ns)
  where
    go : (b : Bool) → (m == n) ≡ b → (b || is_among n ns) ≡ true → (is_among n ns ≡ true → is_among (f n) (map f ns) ≡ true) → (f m == f n || is_among (f n) (map f ns)) ≡ true
    go true same it rest = or_left _ _ (eq-eqb _ _ (ap f (eqb-true m n same)))
    go false other it rest = or_right (f m == f n) _ (rest it)

-- a number of the starts of pages
pub record IsStart (from n byte : ℕ) : Type 0 where
  pub page : ℕ
  pub is : byte ≡ 4096 * page
  pub above : from ≤ page
  pub below : page < from + n

pub among-range : (from n byte : ℕ) → is_among byte (map (λ page. 4096 * page) (range_with_len from n)) ≡ true → IsStart from n byte
among-range from zero byte among = absurd (cc)
among-range from (suc n) byte among = go (4096 * from == byte) refl among (among-range (from + 1) n byte)
  where
    go : (b : Bool) → (4096 * from == byte) ≡ b → (b || is_among byte (map (λ page. 4096 * page) (range_with_len (from + 1) n))) ≡ true → (is_among byte (map (λ page. 4096 * page) (range_with_len (from + 1) n)) ≡ true → IsStart (from + 1) n byte) → IsStart from (suc n) byte
    go true same it rest = record { page = from; is = sym (eqb-true (4096 * from) byte same); above = omega arith; below = omega arith }
    go false other it rest =
        let k = rest it in
        let above : from + 1 ≤ k.page = k.above in
        let below : k.page < from + 1 + n = k.below in
        record { page = k.page; is = k.is; above = omega arith; below = omega arith }

pub range-among : (from n page : ℕ) → from ≤ page → page < from + n → is_among (4096 * page) (map (λ p. 4096 * p) (range_with_len from n)) ≡ true
range-among from zero page above below = absurd (omega arith)
range-among from (suc n) page above below = go (from == page) refl (range-among (from + 1) n page)
  where
    go : (b : Bool) → (from == page) ≡ b → (from + 1 ≤ page → page < from + 1 + n → is_among (4096 * page) (map (λ p. 4096 * p) (range_with_len (from + 1) n)) ≡ true) → (4096 * from == 4096 * page || is_among (4096 * page) (map (λ p. 4096 * p) (range_with_len (from + 1) n))) ≡ true
    go true same rest = or_left _ _ (eq-eqb _ _ (ap (λ p. 4096 * p) (eqb-true from page same)))
    go false other rest = or_right (4096 * from == 4096 * page) _ (rest (more from page above other) (omega arith))
      where
        more : (a b : ℕ) → a ≤ b → (a == b) ≡ false → a + 1 ≤ b
        more a b le ne = grind (arith, eq-eqb)

-- a fact of each number of a list
pub all-among : (P : ℕ → Type 0) (ns : List ℕ) → ((n : ℕ) → is_among n ns ≡ true → P n) → AllByRecursion P ns
all-among P [] each = tt
all-among P (n ∷ ns) each = (each n (or_left _ _ (itself n)), all-among P ns (λ m among. each m (or_right (n == m) _ among)))

all-push : (P : ℕ → Type 0) (ns : List ℕ) (n : ℕ) → AllByRecursion P ns → P n → AllByRecursion P (ns ++ n ∷ [])
all-push P [] n all this = (this, tt)
all-push P (m ∷ ns) n all this = (all.0, all-push P ns n all.1 this)

all-weaker : (P Q : ℕ → Type 0) → ((n : ℕ) → P n → Q n) → (ns : List ℕ) → AllByRecursion P ns → AllByRecursion Q ns
all-weaker P Q weaker [] all = tt
all-weaker P Q weaker (n ∷ ns) all = (weaker n all.0, all-weaker P Q weaker ns all.1)

all-filter : (P : ℕ → Type 0) (test : ℕ → Bool) (ns : List ℕ) → AllByRecursion P ns → AllByRecursion P (filter test ns)
all-filter P test [] all = tt
all-filter P test (n ∷ ns) all = go (test n) (all-filter P test ns all.1)
  where
    go : (b : Bool) → AllByRecursion P (filter test ns) → AllByRecursion P (cond b (n ∷ filter test ns) (filter test ns))
    go true rest = (all.0, rest)
    go false rest = rest

all-map : (P : ℕ → Type 0) (f : ℕ → ℕ) (ns : List ℕ) → AllByRecursion (λ n. P (f n)) ns → AllByRecursion P (map f ns)
all-map P f [] all = tt
all-map P f (n ∷ ns) all = (all.0, all-map P f ns all.1)

-- the order, after a number went or came
pub ascends-filter : (test : ℕ → Bool) (ns : List ℕ) → AscendsByPage ns → AscendsByPage (filter test ns)
ascends-filter test [] ascends = tt
ascends-filter test (n ∷ ns) ascends = go (test n) (ascends-filter test ns ascends.1)
  where
    go : (b : Bool) → AscendsByPage (filter test ns) → AscendsByPage (cond b (n ∷ filter test ns) (filter test ns))
    go true rest = (all-filter (λ later. n / 4096 < later / 4096) test ns ascends.0, rest)
    go false rest = rest

pub ascends-map : (f : ℕ → ℕ) → ((n : ℕ) → f n / 4096 ≡ n / 4096) → (ns : List ℕ) → AscendsByPage ns → AscendsByPage (map f ns)
ascends-map f same [] ascends = tt
ascends-map f same (n ∷ ns) ascends = (
  all-map (λ later. f n / 4096 < later / 4096) f ns
      (all-weaker (λ later. n / 4096 < later / 4096) (λ later. f n / 4096 < f later / 4096) (λ later less. omega (arith, same n, same later)) ns ascends.0),
  ascends-map f same ns ascends.1,
)

pub ascends-push : (ns : List ℕ) (n : ℕ) → AscendsByPage ns → AllByRecursion (λ m. m / 4096 < n / 4096) ns → AscendsByPage (ns ++ n ∷ [])
ascends-push [] n ascends all = (tt, tt)
ascends-push (m ∷ ns) n ascends all =
    (all-push (λ later. m / 4096 < later / 4096) ns n ascends.0 all.0, ascends-push ns n ascends.1 all.1)

pub ascends-range : (ns : List ℕ) (from n : ℕ) → AscendsByPage ns → AllByRecursion (λ m. m / 4096 < from) ns → AscendsByPage (ns ++ map (λ page. 4096 * page) (range_with_len from n))
ascends-range ns from zero ascends all = subst AscendsByPage (sym (append-nil ns)) ascends
ascends-range ns from (suc n) ascends all =
    let page : 4096 * from / 4096 ≡ from = omega arith in
    let here = all-weaker (λ m. m / 4096 < from) (λ m. m / 4096 < 4096 * from / 4096) (λ m less. omega (arith, page)) ns all in
    let next = all-weaker (λ m. m / 4096 < from) (λ m. m / 4096 < from + 1) (λ m less. omega arith) ns all in
    let last : 4096 * from / 4096 < from + 1 = omega arith in
    subst AscendsByPage (append_assoc ns (4096 * from ∷ []) (map (λ p. 4096 * p) (range_with_len (from + 1) n)))
    (ascends-range (ns ++ 4096 * from ∷ []) (from + 1) n (ascends-push ns (4096 * from) ascends here)
    (all-push (λ m. m / 4096 < from + 1) ns (4096 * from) next last))

-- the pages of bytes in order ascend
pub rises-pages : (ns : List ℕ) → AscendsByPage ns → Rises (map (λ n. n / 4096) ns)
rises-pages [] ascends = tt
rises-pages (n ∷ ns) ascends = (all-map (λ page. n / 4096 < page) (λ m. m / 4096) ns ascends.0, rises-pages ns ascends.1)

pub among-pages : (q : ℕ) (ns : List ℕ) → is_among q (map (λ n. n / 4096) ns) ≡ true → IsPassed (λ n. n / 4096 == q) ns
among-pages q [] among = absurd (cc)
among-pages q (n ∷ ns) among = go (n / 4096 == q) refl among (among-pages q ns)
  where
    go : (b : Bool) → (n / 4096 == q) ≡ b → (b || is_among q (map (λ m. m / 4096) ns)) ≡ true → (is_among q (map (λ m. m / 4096) ns) ≡ true → IsPassed (λ m. m / 4096 == q) ns) → IsPassed (λ m. m / 4096 == q) (n ∷ ns)
    go true same it rest = record { number = n; among = or_left _ _ (itself n); passes = same }
    go false other it rest = let k = rest it in record { number = k.number; among = or_right (n == k.number) _ k.among; passes = k.passes }

-- bytes of dirty pages are no more than those are
pub length-dirty : (h : List Effect) (ns : List ℕ) → AscendsByPage ns → ((n : ℕ) → is_among n ns ≡ true → is_dirty h (n / 4096) ≡ true) → length ns ≤ dirty_count h
length-dirty h ns ascends each =
    let within = length-le_from_is_member nat_eq_equiv (map (λ n. n / 4096) ns) (dirty_pages h) (IsDistinct-rises _ (rises-pages ns ascends)) member in
    omega (arith, within, length-map ns (λ n. n / 4096))
  where
    member : (q : ℕ) → is_member nat_eq (map (λ n. n / 4096) ns) q ≡ true → is_member nat_eq (dirty_pages h) q ≡ true
    member q is =
        let k = among-pages q ns (sym (is_member-among q (map (λ n. n / 4096) ns)) ∙ is) in
        is_member-among q (dirty_pages h) ∙ dirty-among h q (subst (λ p. is_dirty h p ≡ true) (eqb-true (k.number / 4096) q k.passes) (each k.number k.among))

-- the order after the valid data length rose: the page of the place up to which it was valid comes last
module _ (ns : List ℕ) (was : ℕ) (ascends : AscendsByPage ns) (below : (n : ℕ) → is_among n ns ≡ true → n < was) where
  apart : has_page_of_bytes ns (was / 4096) ≡ false → (n : ℕ) → is_among n ns ≡ true → n / 4096 < was / 4096
  apart none n among = go (n / 4096 == was / 4096) refl
    where
      less : (a b : ℕ) → a ≤ b → (a == b) ≡ false → a < b
      less a b le ne = grind (arith, eq-eqb)

      go : (b : Bool) → (n / 4096 == was / 4096) ≡ b → n / 4096 < was / 4096
      go true same = absurd (cc (any-among (λ m. m / 4096 == was / 4096) n ns among same))
      go false other = let under : n < was = below n among in less (n / 4096) (was / 4096) (omega arith) other

  ascends-with : AscendsByPage (with_page_of ns was)
  ascends-with = go (has_page_of_bytes ns (was / 4096)) refl
    where
      go : (b : Bool) → has_page_of_bytes ns (was / 4096) ≡ b → AscendsByPage (if b then ns else ns ++ was ∷ [])
      go true some = ascends
      go false none = ascends-push ns was ascends (all-among (λ m. m / 4096 < was / 4096) ns (apart none))

  all-with : AllByRecursion (λ m. m / 4096 < was / 4096 + 1) (with_page_of ns was)
  all-with = go (has_page_of_bytes ns (was / 4096))
    where
      each : AllByRecursion (λ m. m / 4096 < was / 4096 + 1) ns
      each = all-among (λ m. m / 4096 < was / 4096 + 1) ns (λ n among. let under : n < was = below n among in omega arith)

      go : (b : Bool) → AllByRecursion (λ m. m / 4096 < was / 4096 + 1) (if b then ns else ns ++ was ∷ [])
      go true = each
      go false = all-push (λ m. m / 4096 < was / 4096 + 1) ns was each (omega arith)

  pub ascends-raised : (to : ℕ) → AscendsByPage (with_page_of ns was ++ starts (was / 4096 + 1) to)
  ascends-raised to = ascends-range (with_page_of ns was) (was / 4096 + 1) (to - (was / 4096 + 1)) ascends-with all-with

-- the last byte alone may be of the page of one past all of them
pub last-page : (ns : List ℕ) (byte last : ℕ) → slice_get ns (length ns - 1) ≡ Some last → AscendsByPage ns → AllByRecursion (λ n. n < byte) ns → (last / 4096 == byte / 4096) ≡ has_page_of_bytes ns (byte / 4096)
last-page [] byte last at ascends below = absurd (cc)
last-page (n ∷ []) byte last at ascends below = let same : n ≡ last = cc in alone (last / 4096 == byte / 4096) (n / 4096 == byte / 4096) (ap (λ m. m / 4096 == byte / 4096) (sym same))
  where
    alone : (a b : Bool) → a ≡ b → a ≡ (b || false)
    alone true true is = refl
    alone true false is = is
    alone false true is = is
    alone false false is = refl
last-page (n ∷ m ∷ ns) byte last at ascends below =
    let apart = ne_eqb (n / 4096) (byte / 4096) (omega (arith, ascends.0.0, below.1.0)) in
    let more : suc (suc (length ns)) - 1 ≡ suc (length ns) = omega arith in
    let less : suc (length ns) - 1 ≡ length ns = omega arith in
    let there : slice_get (m ∷ ns) (length ns) ≡ Some last = subst (λ k. slice_get (n ∷ m ∷ ns) k ≡ Some last) more at in
    last-page (m ∷ ns) byte last (ap (slice_get (m ∷ ns)) less ∙ there) ascends.1 below.1 ∙ sym (ap (λ b. b || has_page_of_bytes (m ∷ ns) (byte / 4096)) apart)
