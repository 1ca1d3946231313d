-- Lists of numbers, the pages of a range and counts of blocks.
use Rattle.std.specs.Prelude.{◌≡◌, ℕ, suc, zero, ◌+◌, ◌-◌, ◌*◌, ◌/◌, ◌<◌, ◌≤◌, Bool, true, false, cond, not, ◌||◌, ◌==◌, nat_eq, nat_lt, List, [], ◌∷◌, ◌++◌, map, refl}
use Rattle.std.specs.declared.option.Option.TheVariants.{Some}
use Rattle.std.specs.List.{filter, list_any, list_all, find, range_with_len, IsDistinct, AllByRecursion}
use Rattle.std.specs.Set.{distinct_count, is_member, unique_keys}
use Rattle.std.specs.Cmp.{nat_eq_equiv}
use Rattle.std.proofs.Common.{ap, sym, ◌∙◌, arith}
use Rattle.std.proofs.lemmas.Bool.{and_parts, or_parts, or_left, or_right, eqb-true, ltb-true, eq-eqb, ne_eqb}
use Rattle.std.proofs.lemmas.Map.Made.{length-le_from_is_member}
use Rattle.cc_entry.specs.Place.{Range}
use Rattle.cc_entry.specs.Pages.{has_page, pages_of, block_of}
use Rattle.cc_model.specs.Numbers.{is_empty, is_among, without}

pub among-append_left : (n : ℕ) (ns ms : List ℕ) → is_among n ns ≡ true → is_among n (ns ++ ms) ≡ true
among-append_left n [] ms is = absurd (cc)
among-append_left n (k ∷ ns) ms is = go (k == n) is (among-append_left n ns ms)
  where
    go : (t : Bool) → (t || is_among n ns) ≡ true → (is_among n ns ≡ true → is_among n (ns ++ ms) ≡ true) → (t || is_among n (ns ++ ms)) ≡ true
    go true is rest = refl
    go false is rest = rest is

pub among-append_right : (n : ℕ) (ns ms : List ℕ) → is_among n ms ≡ true → is_among n (ns ++ ms) ≡ true
among-append_right n [] ms is = is
among-append_right n (k ∷ ns) ms is = or_right (k == n) _ (among-append_right n ns ms is)

pub among-filter : (test : ℕ → Bool) (n : ℕ) (ns : List ℕ) → is_among n ns ≡ true → test n ≡ true → is_among n (filter test ns) ≡ true
among-filter test n [] is passes = absurd (cc)
among-filter test n (k ∷ ns) is passes = go (k == n) (test k) refl refl is (λ i. among-filter test n ns i passes)
  where
    go : (t u : Bool) → (k == n) ≡ t → test k ≡ u → (t || is_among n ns) ≡ true → (is_among n ns ≡ true → is_among n (filter test ns) ≡ true) → is_among n (cond u (k ∷ filter test ns) (filter test ns)) ≡ true
    go true true same it is rest = or_left _ _ same
    go true false same it is rest = absurd (cc (eqb-true k n same))
    go false true same it is rest = or_right (k == n) _ (rest is)
    go false false same it is rest = rest is

pub among-without : (k n : ℕ) (ns : List ℕ) → is_among n ns ≡ true → (k == n) ≡ false → is_among n (without k ns) ≡ true
among-without k n ns is other = among-filter (λ m. not (m == k)) n ns is (ap not (ne_eqb n k (λ e. apart (eq-eqb k n (sym e)))))
  where
    apart : (k == n) ≡ true → ⊥
    apart same = cc

-- a number stays where another comes in
pub among-placed : (k n : ℕ) (ns : List ℕ) → is_among n ns ≡ true → is_among n (k ∷ without k ns) ≡ true
among-placed k n ns is = go (k == n) refl
  where
    go : (t : Bool) → (k == n) ≡ t → ((k == n) || is_among n (without k ns)) ≡ true
    go true same = or_left _ _ same
    go false other = or_right (k == n) _ (among-without k n ns is other)

pub among-all : (test : ℕ → Bool) (n : ℕ) (ns : List ℕ) → list_all test ns ≡ true → is_among n ns ≡ true → test n ≡ true
among-all test n [] all is = absurd (cc)
among-all test n (k ∷ ns) all is = go (k == n) refl is (among-all test n ns (and_parts (test k) _ all).1)
  where
    go : (t : Bool) → (k == n) ≡ t → (t || is_among n ns) ≡ true → (is_among n ns ≡ true → test n ≡ true) → test n ≡ true
    go true same is rest = sym (ap test (eqb-true k n same)) ∙ (and_parts (test k) (list_all test ns) all).0
    go false other is rest = rest is

pub among-any : (test : ℕ → Bool) (n : ℕ) (ns : List ℕ) → is_among n ns ≡ true → test n ≡ true → list_any test ns ≡ true
among-any test n [] is passes = absurd (cc)
among-any test n (k ∷ ns) is passes = go (k == n) refl is (λ i. among-any test n ns i passes)
  where
    go : (t : Bool) → (k == n) ≡ t → (t || is_among n ns) ≡ true → (is_among n ns ≡ true → list_any test ns ≡ true) → (test k || list_any test ns) ≡ true
    go true same is rest = or_left _ _ (ap test (eqb-true k n same) ∙ passes)
    go false other is rest = or_right (test k) _ (rest is)

pub among-not_empty : (n : ℕ) (ns : List ℕ) → is_among n ns ≡ true → is_empty ns ≡ false
among-not_empty n [] is = absurd (cc)
among-not_empty n (k ∷ ns) is = refl

pub among-range : (n from len : ℕ) → from ≤ n → n < from + len → is_among n (range_with_len from len) ≡ true
among-range n from zero above below = absurd (omega arith)
among-range n from (suc len) above below = go (from == n) refl (among-range n (from + 1) len)
  where
    go : (t : Bool) → (from == n) ≡ t → (from + 1 ≤ n → n < (from + 1) + len → is_among n (range_with_len (from + 1) len) ≡ true) → ((from == n) || is_among n (range_with_len (from + 1) len)) ≡ true
    go true same rest = or_left _ _ same
    go false other rest = or_right (from == n) _ (rest (omega (arith, past)) (omega arith))
      where
        past : from ≡ n → ⊥
        past e = cc (eq-eqb from n e)

page-from : (from p : ℕ) → from < 4096 * p + 4096 → from / 4096 ≤ p
page-from from p starts = omega arith

page-before : (from to p : ℕ) → from < to → from < 4096 * p + 4096 → 4096 * p < to → p < from / 4096 + (((to - 1) / 4096 + 1) - from / 4096)
page-before from to p some starts ends = omega arith

-- a page of a range is among the pages of the range
pub among-pages : (r : Range) (p : ℕ) → has_page r p ≡ true → is_among p (pages_of r) ≡ true
among-pages r p has = rw (nonempty, pages_of) (among-range p (r.from / 4096) (((r.to - 1) / 4096 + 1) - r.from / 4096) (page-from r.from p starts) (page-before r.from r.to p some starts ends))
  where
    nonempty : nat_lt r.from r.to ≡ true
    nonempty = (and_parts (nat_lt r.from r.to) _ has).0

    some : r.from < r.to
    some = ltb-true r.from r.to nonempty

    starts : r.from < 4096 * p + 4096
    starts = ltb-true r.from (4096 * p + 4096) (and_parts _ _ (and_parts (nat_lt r.from r.to) _ has).1).0

    ends : 4096 * p < r.to
    ends = ltb-true (4096 * p) r.to (and_parts (nat_lt r.from (4096 * p + 4096)) _ (and_parts (nat_lt r.from r.to) _ has).1).1

-- what holds where one test does, holds where a weaker one does
pub any-weaker : {A : Type 0} (strong weak : A → Bool) (xs : List A) → ((x : A) → strong x ≡ true → weak x ≡ true) → list_any strong xs ≡ true → list_any weak xs ≡ true
any-weaker strong weak [] weaker is = absurd (cc)
any-weaker strong weak (x ∷ xs) weaker is = go (strong x) refl is (any-weaker strong weak xs weaker)
  where
    go : (t : Bool) → strong x ≡ t → (t || list_any strong xs) ≡ true → (list_any strong xs ≡ true → list_any weak xs ≡ true) → (weak x || list_any weak xs) ≡ true
    go true passes is rest = or_left _ _ (weaker x passes)
    go false fails is rest = or_right (weak x) _ (rest is)

pub any-none : {A : Type 0} (test : A → Bool) (xs : List A) → list_any (λ x. true) xs ≡ false → list_any test xs ≡ false
any-none test [] none = refl
any-none test (x ∷ xs) none = absurd (cc)

pub any-found : {A : Type 0} (sought test : A → Bool) (xs : List A) (x : A) → find sought xs ≡ Some x → test x ≡ true → list_any test xs ≡ true
any-found sought test [] x found passes = absurd (cc)
any-found sought test (y ∷ ys) x found passes = go (sought y) found (λ f. any-found sought test ys x f passes)
  where
    go : (t : Bool) → cond t (Some y) (find sought ys) ≡ Some x → (find sought ys ≡ Some x → list_any test ys ≡ true) → (test y || list_any test ys) ≡ true
    go true is rest = let same : y ≡ x = cc in or_left _ _ (ap test same ∙ passes)
    go false is rest = or_right (test y) _ (rest is)

-- the distinct numbers of a list are those of the list, each once
unique-member : (ns : List ℕ) (n : ℕ) → is_member nat_eq (unique_keys nat_eq ns) n ≡ is_member nat_eq ns n
unique-member [] n = refl
unique-member (k ∷ ns) n = go (is_member nat_eq ns k) (nat_eq n k) refl refl (unique-member ns n)
  where
    go : (t u : Bool) → is_member nat_eq ns k ≡ t → nat_eq n k ≡ u → is_member nat_eq (unique_keys nat_eq ns) n ≡ is_member nat_eq ns n → is_member nat_eq (cond t (unique_keys nat_eq ns) (k ∷ unique_keys nat_eq ns)) n ≡ (u || is_member nat_eq ns n)
    go true true there same rest = rest ∙ (ap (is_member nat_eq ns) (eqb-true n k same) ∙ there)
    go true false there other rest = rest
    go false u absent is rest = rw is (ap (λ v. u || v) rest)

absent-apart : (k : ℕ) (ns : List ℕ) → is_member nat_eq ns k ≡ false → AllByRecursion (λ n. nat_eq k n ≡ false) ns
absent-apart k [] absent = tt
absent-apart k (n ∷ ns) absent = let parts = or_parts (nat_eq k n) _ absent in (parts.0, absent-apart k ns parts.1)

unique-distinct : (ns : List ℕ) → IsDistinct nat_eq (unique_keys nat_eq ns)
unfolding IsDistinct
unique-distinct [] = tt
unique-distinct (k ∷ ns) = go (is_member nat_eq ns k) refl (unique-distinct ns)
  where
    go : (t : Bool) → is_member nat_eq ns k ≡ t → IsDistinct nat_eq (unique_keys nat_eq ns) → IsDistinct nat_eq (cond t (unique_keys nat_eq ns) (k ∷ unique_keys nat_eq ns))
    go true there rest = rest
    go false absent rest = (absent-apart k (unique_keys nat_eq ns) (unique-member ns k ∙ absent), rest)

-- a list that has no number that another lacks has no more distinct ones
pub count-le : (ns ms : List ℕ) → ((n : ℕ) → is_member nat_eq ns n ≡ true → is_member nat_eq ms n ≡ true) → distinct_count nat_eq ns ≤ distinct_count nat_eq ms
count-le ns ms within =
    length-le_from_is_member nat_eq_equiv (unique_keys nat_eq ns) (unique_keys nat_eq ms) (unique-distinct ns)
    (λ n is. unique-member ms n ∙ within n (sym (unique-member ns n) ∙ is))

blocks-fewer : (test : ℕ → Bool) (ps : List ℕ) (q : ℕ) → is_member nat_eq (map block_of (filter test ps)) q ≡ true → is_member nat_eq (map block_of ps) q ≡ true
blocks-fewer test [] q is = is
blocks-fewer test (p ∷ ps) q is = go (test p) is (blocks-fewer test ps q)
  where
    go : (t : Bool) → is_member nat_eq (map block_of (cond t (p ∷ filter test ps) (filter test ps))) q ≡ true → (is_member nat_eq (map block_of (filter test ps)) q ≡ true → is_member nat_eq (map block_of ps) q ≡ true) → (nat_eq q (block_of p) || is_member nat_eq (map block_of ps) q) ≡ true
    go true is rest = both (nat_eq q (block_of p)) is
      where
        both : (t : Bool) → (t || is_member nat_eq (map block_of (filter test ps)) q) ≡ true → (t || is_member nat_eq (map block_of ps) q) ≡ true
        both true is = refl
        both false is = rest is
    go false is rest = or_right (nat_eq q (block_of p)) _ (rest is)

-- fewer pages have no more blocks
pub blocks-filtered : (test : ℕ → Bool) (ps : List ℕ) → distinct_count nat_eq (map block_of (filter test ps)) ≤ distinct_count nat_eq (map block_of ps)
blocks-filtered test ps = count-le (map block_of (filter test ps)) (map block_of ps) (blocks-fewer test ps)

-- a page that comes in beside others has no more blocks than it and they
pub blocks-placed : (p : ℕ) (ps : List ℕ) → distinct_count nat_eq (map block_of (p ∷ without p ps)) ≤ distinct_count nat_eq (block_of p ∷ map block_of ps)
blocks-placed p ps = count-le (map block_of (p ∷ without p ps)) (block_of p ∷ map block_of ps) (λ q is. go q (nat_eq q (block_of p)) is)
  where
    go : (q : ℕ) (t : Bool) → (t || is_member nat_eq (map block_of (without p ps)) q) ≡ true → (t || is_member nat_eq (map block_of ps) q) ≡ true
    go q true is = refl
    go q false is = blocks-fewer (λ m. not (m == p)) ps q is
