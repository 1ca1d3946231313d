-- What the rows of a past list and count.
use Rattle.std.specs.Prelude.{◌≡◌, ℕ, zero, suc, ◌+◌, ◌-◌, ◌*◌, ◌/◌, ◌<◌, ◌≤◌, Bool, true, false, cond, not, is_some, ◌==◌, ◌&&◌, ◌||◌, nat_eq, nat_lt, All, List, [], ◌∷◌, ◌++◌, Option, None, Some, length, map, filter, find, count_by, if◌then◌else◌, refl}
use Rattle.std.specs.List.{sum_by, list_any, flat_map, range_with_len, AllByRecursion}
use Rattle.std.specs.Cmp.{nat_eq_equiv}
use Rattle.std.specs.Set.{is_member}
use Rattle.std.proofs.Common.{ap, sym, subst, ◌∙◌, arith}
use Rattle.std.proofs.lemmas.Bool.{and_parts, and_from, or_left, not-true, eqb-true, eqb-false, eq-eqb, ne_eqb, lt-ltb, ltb-true}
use Rattle.std.proofs.lemmas.Bool.Decides.{nat_tests}
use Rattle.std.proofs.lemmas.List.{length-map}
use Rattle.std.proofs.lemmas.List.Elements.{All-head, All-tail, recursion_from_All}
use Rattle.std.proofs.lemmas.List.Sums.{sum_by-cons, sum_by-le-sum_by, length-filter}
use Rattle.std.proofs.lemmas.List.Filters.{length-filter_both}
use Rattle.std.proofs.lemmas.Map.Made.{length-le_from_is_member}
use Rattle.cc_entry.specs.Place.{Page, Range}
use Rattle.cc_entry.specs.Pages.{has_page, pages_of}
use Rattle.cc_entry.specs.declared.entry.Entry.{Entry}
use Rattle.cc_dirty.specs.declared.row.Unwritten.{Unwritten}
use Rattle.cc_dirty.specs.declared.row.Row.{Row}
use Rattle.cc_dirty.specs.Order.{same_page, precedes, RowsAscend}
use Rattle.cc_dirty.specs.Unwritten.{is_touched}
use Rattle.cc_dirty.specs.Table.{row_of, is_row_of_stream, Sound}
use Rattle.cc_model.specs.Numbers.{is_empty, is_among, placed, ascending}
use Rattle.cc_model.specs.History.{Effect, history}
use Rattle.cc_model.specs.Objects.{objects}
use Rattle.cc_model.specs.Touches.{touched, unwritten, is_dirty, dirty_pages, is_mapped}
use Rattle.cc_model.specs.Settings.{is_temporary, has_no_write_behind}
use Rattle.cc_model.specs.Cache.{dirty_count, dirty_total, written_behind, lazy_pages}
use Rattle.cc_laws.proofs.BlockLists.{is_among-filter}
use Rattle.cc_laws.proofs.BlockPages.{Above, Rises, rises-ascending, rises-filter, IsDistinct-rises, is_member-among}
use Rattle.cc_laws.proofs.DirtyAmong.{dirty-among, dirty_pages-dirty}
use Rattle.cc_journal.specs.Rows.{journal_place, IsRowOf, Follows, is_absent, absent_count}
use Rattle.cc_journal.proofs.RowSteps.{some-oldest}

-- rows in order, by recursion
abbrev Ordered : List Row → Type 0
Ordered [] = Unit {0}
Ordered (r ∷ rows) = AllByRecursion (λ b. precedes r.page b.page ≡ true) rows × Ordered rows

ordered : (rows : List Row) → RowsAscend rows → Ordered rows
ordered [] up = tt
ordered (r ∷ rows) up = (
  recursion_from_All (λ b. precedes r.page b.page ≡ true) rows (λ k d lt. up 0 (suc k) d (omega arith) (omega arith)),
  ordered rows (λ i j d a b. up (suc i) (suc j) d (omega arith) (omega arith)),
)

-- the pages of a stream that have rows
pages_in : ℕ → List Row → List ℕ
pages_in s rows = map (λ r. r.page.page) (filter (is_row_of_stream s) rows)

above-pages_in : (s : ℕ) (r : Row) (rows : List Row) → (r.page.stream == s) ≡ true → AllByRecursion (λ b. precedes r.page b.page ≡ true) rows → Above r.page.page (pages_in s rows)
unfolding pages_in
above-pages_in s r [] here before = tt
above-pages_in s r (b ∷ rows) here before = go (b.page.stream == s) refl (above-pages_in s r rows here before.1)
  where
    less : (c d : Page) → (c.stream == s) ≡ true → (d.stream == s) ≡ true → precedes c d ≡ true → c.page < d.page
    less c d same also it = grind (arith, nat_tests)

    go : (t : Bool) → (b.page.stream == s) ≡ t → Above r.page.page (map (λ r. r.page.page) (filter (is_row_of_stream s) rows)) → Above r.page.page (map (λ r. r.page.page) (cond t (b ∷ filter (is_row_of_stream s) rows) (filter (is_row_of_stream s) rows)))
    go true same rest = (less r.page b.page here same before.0, rest)
    go false other rest = rest

rises-pages_in : (s : ℕ) (rows : List Row) → Ordered rows → Rises (pages_in s rows)
unfolding pages_in
rises-pages_in s [] up = tt
rises-pages_in s (r ∷ rows) up = go (r.page.stream == s) refl (rises-pages_in s rows up.1)
  where
    go : (t : Bool) → (r.page.stream == s) ≡ t → Rises (map (λ r. r.page.page) (filter (is_row_of_stream s) rows)) → Rises (map (λ r. r.page.page) (cond t (r ∷ filter (is_row_of_stream s) rows) (filter (is_row_of_stream s) rows)))
    go true same rest = (above-pages_in s r rows same up.0, rest)
    go false other rest = rest

is_among-pages_in : (s p : ℕ) (rows : List Row) → is_among p (pages_in s rows) ≡ not (is_absent rows (record { stream = s; page = p }))
unfolding pages_in
is_among-pages_in s p [] = refl
is_among-pages_in s p (r ∷ rows) = go (r.page.stream == s) (r.page.page == p) refl (is_among-pages_in s p rows)
  where
    go : (t u : Bool) → (r.page.page == p) ≡ u → is_among p (map (λ r. r.page.page) (filter (is_row_of_stream s) rows)) ≡ not (is_absent rows (record { stream = s; page = p }))
        → is_among p (map (λ r. r.page.page) (cond t (r ∷ filter (is_row_of_stream s) rows) (filter (is_row_of_stream s) rows))) ≡ not (elim (cond (t && u) (Some r) (row_of rows (record { stream = s; page = p }))) [ None ↦ true | Some row ↦ false ])
    go true true same rest = or_left _ _ same
    go true false other rest = rw other rest
    go false u is rest = rest

above-among : (n q : ℕ) (ns : List ℕ) → Above n ns → is_among q ns ≡ true → n < q
above-among n q [] above is = absurd (cc)
above-among n q (m ∷ ns) above is = go (m == q) refl is (above-among n q ns above.1)
  where
    go : (t : Bool) → (m == q) ≡ t → (t || is_among q ns) ≡ true → (is_among q ns ≡ true → n < q) → n < q
    go true same it rest = subst (λ k. n < k) (eqb-true m q same) above.0
    go false other it rest = rest it

-- a number is not among those above it
absent-above : (n : ℕ) (ns : List ℕ) → Above n ns → is_among n ns ≡ false
absent-above n ns above = go (is_among n ns) refl
  where
    go : (t : Bool) → is_among n ns ≡ t → t ≡ false
    go true there = let less : n < n = above-among n n ns above there in absurd (omega arith)
    go false absent = refl

itself : (n : ℕ) (ns : List ℕ) → is_among n (n ∷ ns) ≡ true
itself n ns = or_left (n == n) (is_among n ns) (eq-eqb n n refl)

-- the first number of a list that rises is at most each of its numbers
least-first : (n q : ℕ) (ns : List ℕ) → Above n ns → is_among q (n ∷ ns) ≡ true → n ≤ q
least-first n q ns above is = go (n == q) refl is
  where
    go : (t : Bool) → (n == q) ≡ t → (t || is_among q ns) ≡ true → n ≤ q
    go true same it = let e : n ≡ q = eqb-true n q same in omega arith
    go false other it = let less : n < q = above-among n q ns above it in omega arith

-- lists that rise and have the same numbers are the same
same_rises : (ns ms : List ℕ) → Rises ns → Rises ms → ((q : ℕ) → is_among q ns ≡ is_among q ms) → ns ≡ ms
same_rises [] [] a b same = refl
same_rises [] (m ∷ ms) a b same = absurd (cc (same m, itself m ms))
same_rises (n ∷ ns) [] a b same = absurd (cc (same n, itself n ns))
same_rises (n ∷ ns) (m ∷ ms) a b same = both first (same_rises ns ms a.1 b.1 rest)
  where
    first : n ≡ m
    first =
        let low : m ≤ n = least-first m n ms b.0 (sym (same n) ∙ itself n ns) in
        let high : n ≤ m = least-first n m ns a.0 (same m ∙ itself m ms) in
        omega arith

    both : n ≡ m → ns ≡ ms → n ∷ ns ≡ m ∷ ms
    both e f = cc

    rest : (q : ℕ) → is_among q ns ≡ is_among q ms
    rest q = go (n == q) refl
      where
        left : (t : Bool) → (n == q) ≡ t → (m == q) ≡ t
        left t is = sym (ap (λ k. k == q) first) ∙ is

        go : (t : Bool) → (n == q) ≡ t → is_among q ns ≡ is_among q ms
        go true is =
            let e : n ≡ q = eqb-true n q is in
            let f : m ≡ q = eqb-true m q (left true is) in
            subst (λ k. is_among k ns ≡ false) e (absent-above n ns a.0) ∙ sym (subst (λ k. is_among k ms ≡ false) f (absent-above m ms b.0))
        go false is =
            let k : (false || is_among q ns) ≡ (false || is_among q ms) = rw is at (rw (left false is) at (same q)) in
            k

All-found : (P : Row → Type 0) (test : Row → Bool) (rows : List Row) (r : Row) → All P rows → find test rows ≡ Some r → P r
All-found P test [] r all found = absurd (cc)
All-found P test (x ∷ rows) r all found = go (test x) found (All-found P test rows r (All-tail P x rows all))
  where
    go : (t : Bool) → cond t (Some x) (find test rows) ≡ Some r → (find test rows ≡ Some r → P r) → P r
    go true is rest = let same : x ≡ r = cc in subst P same (All-head P x rows all)
    go false is rest = rest is

-- a page is dirty where it has a row
pub rows-dirty : (past : List Entry) (rows : List Row) (q : Page) → Follows past rows → Sound rows → not (is_absent rows q) ≡ is_dirty (history past q.stream) q.page
rows-dirty past rows q follows sound = go (row_of rows q) refl (follows q)
  where
    go : (row : Option Row) → row_of rows q ≡ row → IsRowOf (journal_place past q.stream) (history past q.stream) q.page row → not (elim row [ None ↦ true | Some row ↦ false ]) ≡ is_dirty (history past q.stream) q.page
    go None none is = ap (λ (u : Unwritten). is_some u.oldest) is.unwritten ∙ some-oldest (journal_place past q.stream) (unwritten (history past q.stream) q.page)
    go (Some r) found is =
        sym (All-found (λ r. is_touched r ≡ true) (λ r. same_page r.page q) rows r sound.touched found)
        ∙ (ap (λ (u : Unwritten). is_some u.oldest) is.unwritten ∙ some-oldest (journal_place past q.stream) (unwritten (history past q.stream) q.page))

is_among-dirty : (h : List Effect) (p : ℕ) → is_among p (dirty_pages h) ≡ is_dirty h p
is_among-dirty h p = go (is_dirty h p) refl (is_among p (dirty_pages h)) refl
  where
    go : (t : Bool) → is_dirty h p ≡ t → (u : Bool) → is_among p (dirty_pages h) ≡ u → u ≡ t
    go true dirty u is = sym is ∙ dirty-among h p dirty
    go false clean true is = sym (dirty_pages-dirty h p is) ∙ clean
    go false clean false is = refl

rises-dirty : (h : List Effect) → Rises (dirty_pages h)
rises-dirty h = rises-filter (is_dirty h) (ascending (touched h)) (rises-ascending (touched h))

pages_in-dirty : (past : List Entry) (rows : List Row) (s : ℕ) → Follows past rows → Sound rows → pages_in s rows ≡ dirty_pages (history past s)
pages_in-dirty past rows s follows sound =
    same_rises (pages_in s rows) (dirty_pages (history past s)) (rises-pages_in s rows (ordered rows sound.ascending)) (rises-dirty (history past s))
    (λ p. is_among-pages_in s p rows ∙ (rows-dirty past rows (record { stream = s; page = p }) follows sound ∙ sym (is_among-dirty (history past s) p)))

-- the pages of the rows of a stream are its dirty pages, in order
pub dirty_pages-rows : (past : List Entry) (rows : List Row) (s : ℕ) → Follows past rows → Sound rows → map (λ r. r.page.page) (filter (is_row_of_stream s) rows) ≡ dirty_pages (history past s)
unfolding pages_in
dirty_pages-rows past rows s follows sound = pages_in-dirty past rows s follows sound

length-pages_in : (s : ℕ) (rows : List Row) → length (pages_in s rows) ≡ count_by (is_row_of_stream s) rows
unfolding pages_in
length-pages_in s rows = length-map (filter (is_row_of_stream s) rows) (λ r. r.page.page) ∙ length-filter (is_row_of_stream s) rows

-- the rows of a stream are as many as its dirty pages
pub dirty_count-rows : (past : List Entry) (rows : List Row) (s : ℕ) → Follows past rows → Sound rows → count_by (is_row_of_stream s) rows ≡ dirty_count (history past s)
dirty_count-rows past rows s follows sound = sym (length-pages_in s rows) ∙ ap length (pages_in-dirty past rows s follows sound)

sum_by-same : (f g : ℕ → ℕ) (ns : List ℕ) → ((n : ℕ) → f n ≡ g n) → sum_by f ns ≡ sum_by g ns
sum_by-same f g ns same =
    let low : sum_by f ns ≤ sum_by g ns = sum_by-le-sum_by f g ns (λ n. let e : f n ≡ g n = same n in omega arith) in
    let high : sum_by g ns ≤ sum_by f ns = sum_by-le-sum_by g f ns (λ n. let e : f n ≡ g n = same n in omega arith) in
    omega arith

sum_by-plus : (f g : ℕ → ℕ) (ns : List ℕ) → sum_by (λ n. f n + g n) ns ≡ sum_by f ns + sum_by g ns
sum_by-plus f g [] = refl
sum_by-plus f g (n ∷ ns) =
    let rest : sum_by (λ n. f n + g n) ns ≡ sum_by f ns + sum_by g ns = sum_by-plus f g ns in
    rw (sum_by-cons (λ n. f n + g n) n ns, sum_by-cons f n ns, sum_by-cons g n ns) (omega arith)

sum_by-none : (t a n amount : ℕ) → t < a → sum_by (λ s. cond (t == s) amount 0) (range_with_len a n) ≡ 0
sum_by-none t a zero amount past = refl
sum_by-none t a (suc n) amount past =
    let rest : sum_by (λ s. cond (t == s) amount 0) (range_with_len (a + 1) n) ≡ 0 = sum_by-none t (a + 1) n amount (omega arith) in
    let here : cond (t == a) amount 0 ≡ 0 = rw (ne_eqb t a (λ e. omega arith)) refl in
    rw (sum_by-cons (λ s. cond (t == s) amount 0) a (range_with_len (a + 1) n)) (omega arith)

-- one of the numbers of a range stands for all of the sum
sum_by-one : (t a n amount : ℕ) → a ≤ t → t < a + n → sum_by (λ s. cond (t == s) amount 0) (range_with_len a n) ≡ amount
sum_by-one t a zero amount low high = absurd (omega arith)
sum_by-one t a (suc n) amount low high = go (t == a) refl (sum_by-one t (a + 1) n amount)
  where
    go : (b : Bool) → (t == a) ≡ b → (a + 1 ≤ t → t < (a + 1) + n → sum_by (λ s. cond (t == s) amount 0) (range_with_len (a + 1) n) ≡ amount) → sum_by (λ s. cond (t == s) amount 0) (range_with_len a (suc n)) ≡ amount
    go true same rest =
        let e : t ≡ a = eqb-true t a same in
        let here : cond (t == a) amount 0 ≡ amount = rw same refl in
        let none : sum_by (λ s. cond (t == s) amount 0) (range_with_len (a + 1) n) ≡ 0 = sum_by-none t (a + 1) n amount (omega arith) in
        rw (sum_by-cons (λ s. cond (t == s) amount 0) a (range_with_len (a + 1) n)) (omega arith)
    go false other rest =
        let apart : t ≡ a → ⊥ = eqb-false t a other in
        let here : cond (t == a) amount 0 ≡ 0 = rw other refl in
        let after : sum_by (λ s. cond (t == s) amount 0) (range_with_len (a + 1) n) ≡ amount = rest (omega arith) (omega arith) in
        rw (sum_by-cons (λ s. cond (t == s) amount 0) a (range_with_len (a + 1) n)) (omega arith)

-- rows of streams below a bound, stream by stream
length-streams : (n : ℕ) (rows : List Row) → All (λ r. r.page.stream < n) rows → length rows ≡ sum_by (λ s. count_by (is_row_of_stream s) rows) (range_with_len 0 n)
length-streams n [] below = sym (none 0 n)
  where
    none : (a n : ℕ) → sum_by (λ s. 0) (range_with_len a n) ≡ 0
    none a zero = refl
    none a (suc n) =
        let rest : sum_by (λ s. 0) (range_with_len (a + 1) n) ≡ 0 = none (a + 1) n in
        rw (sum_by-cons (λ s. 0) a (range_with_len (a + 1) n)) (omega arith)
length-streams n (r ∷ rows) below =
    let rest : length rows ≡ sum_by (λ s. count_by (is_row_of_stream s) rows) (range_with_len 0 n) = length-streams n rows (All-tail (λ r. r.page.stream < n) r rows below) in
    let high : r.page.stream < n = All-head (λ r. r.page.stream < n) r rows below in
    let one : sum_by (λ s. cond (r.page.stream == s) 1 0) (range_with_len 0 n) ≡ 1 = sum_by-one r.page.stream 0 n 1 (omega arith) (omega arith) in
    let parts : sum_by (λ s. count_by (is_row_of_stream s) (r ∷ rows)) (range_with_len 0 n) ≡ sum_by (λ s. cond (r.page.stream == s) 1 0 + count_by (is_row_of_stream s) rows) (range_with_len 0 n) =
    sum_by-same (λ s. count_by (is_row_of_stream s) (r ∷ rows)) (λ s. cond (r.page.stream == s) 1 0 + count_by (is_row_of_stream s) rows) (range_with_len 0 n) (λ s. sum_by-cons (λ r. cond (is_row_of_stream s r) 1 0) r rows) in
    let split : sum_by (λ s. cond (r.page.stream == s) 1 0 + count_by (is_row_of_stream s) rows) (range_with_len 0 n) ≡ sum_by (λ s. cond (r.page.stream == s) 1 0) (range_with_len 0 n) + sum_by (λ s. count_by (is_row_of_stream s) rows) (range_with_len 0 n) =
    sum_by-plus (λ s. cond (r.page.stream == s) 1 0) (λ s. count_by (is_row_of_stream s) rows) (range_with_len 0 n) in
    omega arith

-- all rows are as many as the dirty pages of all streams
pub dirty_total-rows : (past : List Entry) (rows : List Row) → Follows past rows → Sound rows → All (λ r. r.page.stream < 16) rows → length rows ≡ dirty_total past
unfolding dirty_total
dirty_total-rows past rows follows sound below =
    length-streams 16 rows below
    ∙ sum_by-same (λ s. count_by (is_row_of_stream s) rows) (λ s. dirty_count (history past s)) (range_with_len 0 16) (λ s. dirty_count-rows past rows s follows sound)

list_any-placed : (test : ℕ → Bool) (n : ℕ) (ns : List ℕ) → list_any test (placed n ns) ≡ (test n || list_any test ns)
list_any-placed test n [] = refl
list_any-placed test n (m ∷ ns) = go (nat_lt n m) (m == n) refl (list_any-placed test n ns)
  where
    swapped : (a b c : Bool) → (a || (b || c)) ≡ (b || (a || c))
    swapped true true c = refl
    swapped true false c = refl
    swapped false true c = refl
    swapped false false c = refl

    again : (a b : Bool) → (a || b) ≡ (a || (a || b))
    again true b = refl
    again false b = refl

    go : (t u : Bool) → (m == n) ≡ u → list_any test (placed n ns) ≡ (test n || list_any test ns) → list_any test (cond t (n ∷ m ∷ ns) (cond u (m ∷ ns) (m ∷ placed n ns))) ≡ (test n || (test m || list_any test ns))
    go true u same rest = refl
    go false true same rest = again (test m) (list_any test ns) ∙ ap (λ k. test k || (test m || list_any test ns)) (eqb-true m n same)
    go false false other rest = ap (λ t. test m || t) rest ∙ swapped (test m) (test n) (list_any test ns)

-- a test passes among numbers as it does among them in order
pub list_any-ascending : (test : ℕ → Bool) (ns : List ℕ) → list_any test (ascending ns) ≡ list_any test ns
list_any-ascending test [] = refl
list_any-ascending test (n ∷ ns) = list_any-placed test n (ascending ns) ∙ ap (λ t. test n || t) (list_any-ascending test ns)

-- one passes a test where some are left of it
list_any-left : (test : ℕ → Bool) (ns : List ℕ) → list_any test ns ≡ nat_lt 0 (length (filter test ns))
list_any-left test [] = refl
list_any-left test (n ∷ ns) = go (test n) (list_any-left test ns)
  where
    go : (t : Bool) → list_any test ns ≡ nat_lt 0 (length (filter test ns)) → (t || list_any test ns) ≡ nat_lt 0 (length (cond t (n ∷ filter test ns) (filter test ns)))
    go true rest = sym (lt-ltb 0 (suc (length (filter test ns))) (omega arith))
    go false rest = rest

-- a stream is mapped where an object is open or a page has a row
pub is_mapped-rows : (past : List Entry) (rows : List Row) → Follows past rows → Sound rows → (s : ℕ) → is_mapped (history past s) ≡ (not (is_empty (objects (history past s))) || nat_lt 0 (count_by (is_row_of_stream s) rows))
is_mapped-rows past rows follows sound s =
    ap (λ t. not (is_empty (objects (history past s))) || t)
    (sym (list_any-ascending (is_dirty (history past s)) (touched (history past s)))
    ∙ (list_any-left (is_dirty (history past s)) (ascending (touched (history past s)))
    ∙ ap (λ n. nat_lt 0 n) (sym (dirty_count-rows past rows s follows sound))))

among_range : (n from len : ℕ) → is_among n (range_with_len from len) ≡ true → (from ≤ n) × (n < from + len)
among_range n from zero is = absurd (cc)
among_range n from (suc len) is = go (from == n) refl is (among_range n (from + 1) len)
  where
    go : (t : Bool) → (from == n) ≡ t → (t || is_among n (range_with_len (from + 1) len)) ≡ true → (is_among n (range_with_len (from + 1) len) ≡ true → (from + 1 ≤ n) × (n < (from + 1) + len)) → (from ≤ n) × (n < from + suc len)
    go true same it rest = let e : from ≡ n = eqb-true from n same in (omega arith, omega arith)
    go false other it rest = let k = rest it in let low : from + 1 ≤ n = k.0 in let high : n < (from + 1) + len = k.1 in (omega arith, omega arith)

above-range : (k from len : ℕ) → k < from → Above k (range_with_len from len)
above-range k from zero less = tt
above-range k from (suc len) less = (less, above-range k (from + 1) len (omega arith))

rises-range : (from len : ℕ) → Rises (range_with_len from len)
rises-range from zero = tt
rises-range from (suc len) = (above-range from (from + 1) len (omega arith), rises-range (from + 1) len)

rises-pages : (r : Range) → Rises (pages_of r)
rises-pages r = go (nat_lt r.from r.to)
  where
    go : (t : Bool) → Rises (if t then range_with_len (r.from / 4096) (((r.to - 1) / 4096 + 1) - r.from / 4096) else [])
    go true = rises-range (r.from / 4096) (((r.to - 1) / 4096 + 1) - r.from / 4096)
    go false = tt

page_starts : (from p : ℕ) → from / 4096 ≤ p → from < 4096 * p + 4096
page_starts from p low = omega arith

page_ends : (from to p : ℕ) → from < to → from / 4096 ≤ p → p < from / 4096 + (((to - 1) / 4096 + 1) - from / 4096) → 4096 * p < to
page_ends from to p some low high = omega arith

-- a page among those of a range is one that the range has
pages-had : (r : Range) (p : ℕ) → is_among p (pages_of r) ≡ true → has_page r p ≡ true
pages-had r p is = go (nat_lt r.from r.to) refl is
  where
    go : (t : Bool) → nat_lt r.from r.to ≡ t → is_among p (if t then range_with_len (r.from / 4096) (((r.to - 1) / 4096 + 1) - r.from / 4096) else []) ≡ true → has_page r p ≡ true
    go true some it =
        let k = among_range p (r.from / 4096) (((r.to - 1) / 4096 + 1) - r.from / 4096) it in
        and_from _ _ some (and_from _ _ (lt-ltb r.from (4096 * p + 4096) (page_starts r.from p k.0)) (lt-ltb (4096 * p) r.to (page_ends r.from r.to p (ltb-true r.from r.to some) k.0 k.1)))
    go false none it = absurd (cc)

-- two lists within a third, one of numbers that pass a test and one of numbers that fail it
both_within : (test : ℕ → Bool) (ns ms ds : List ℕ) → Rises ns → Rises ms → ((q : ℕ) → is_among q ns ≡ true → (is_among q ds && test q) ≡ true) → ((q : ℕ) → is_among q ms ≡ true → (is_among q ds && not (test q)) ≡ true)
    → length ns + length ms ≤ length ds
both_within test ns ms ds a b passes fails =
    let few : length ns ≤ length (filter test ds) = length-le_from_is_member nat_eq_equiv ns (filter test ds) (IsDistinct-rises ns a) (within ns test passes) in
    let others : length ms ≤ length (filter (λ q. not (test q)) ds) = length-le_from_is_member nat_eq_equiv ms (filter (λ q. not (test q)) ds) (IsDistinct-rises ms b) (within ms (λ q. not (test q)) fails) in
    let all : length (filter test ds) + length (filter (λ q. not (test q)) ds) ≡ length ds = length-filter_both test (λ q. not (test q)) (λ q. refl) ds in
    omega arith
  where
    within : (xs : List ℕ) (kept : ℕ → Bool) → ((q : ℕ) → is_among q xs ≡ true → (is_among q ds && kept q) ≡ true) → (q : ℕ) → is_member nat_eq xs q ≡ true → is_member nat_eq (filter kept ds) q ≡ true
    within xs kept each q is = is_member-among q (filter kept ds) ∙ (is_among-filter kept q ds ∙ each q (sym (is_member-among q xs) ∙ is))

module _ (past : List Entry) (rows : List Row) (sound : Sound rows) (dirty : (q : Page) → is_absent rows q ≡ false → is_dirty (history past q.stream) q.page ≡ true) where
  -- whether a page of the stream has a row
  has_row : ℕ → ℕ → Bool
  has_row s p = not (is_absent rows (record { stream = s; page = p }))

  row-among : (s q : ℕ) → is_among q (pages_in s rows) ≡ true → (is_among q (dirty_pages (history past s)) && has_row s q) ≡ true
  unfolding has_row
  row-among s q is =
      let has : not (is_absent rows (record { stream = s; page = q })) ≡ true = sym (is_among-pages_in s q rows) ∙ is in
      and_from _ _ (is_among-dirty (history past s) q ∙ dirty (record { stream = s; page = q }) (not-true (is_absent rows (record { stream = s; page = q })) has)) has

  count-within : (s : ℕ) → count_by (is_row_of_stream s) rows ≤ dirty_count (history past s)
  count-within s =
      let long : length (pages_in s rows) ≡ count_by (is_row_of_stream s) rows = length-pages_in s rows in
      let few : length (pages_in s rows) + 0 ≤ length (dirty_pages (history past s)) =
      both_within (has_row s) (pages_in s rows) [] (dirty_pages (history past s)) (rises-pages_in s rows (ordered rows sound.ascending)) tt (row-among s) (λ q is. absurd (cc)) in
      omega arith

  module _ (s : ℕ) (range : Range) (in_range : (p : ℕ) → has_page range p ≡ true → is_dirty (history past s) p ≡ true) where
    absent-among : (q : ℕ) → is_among q (filter (λ p. is_absent rows (record { stream = s; page = p })) (pages_of range)) ≡ true → (is_among q (dirty_pages (history past s)) && not (has_row s q)) ≡ true
    unfolding has_row
    absent-among q is =
        let parts = and_parts (is_among q (pages_of range)) (is_absent rows (record { stream = s; page = q })) (sym (is_among-filter (λ p. is_absent rows (record { stream = s; page = p })) q (pages_of range)) ∙ is) in
        and_from _ _ (is_among-dirty (history past s) q ∙ in_range q (pages-had range q parts.0)) (twice (is_absent rows (record { stream = s; page = q })) ∙ parts.1)
      where
        twice : (b : Bool) → not (not b) ≡ b
        twice true = refl
        twice false = refl

    absent-within : count_by (is_row_of_stream s) rows + absent_count rows s range ≤ dirty_count (history past s)
    absent-within =
        let long : length (pages_in s rows) ≡ count_by (is_row_of_stream s) rows = length-pages_in s rows in
        let more : length (filter (λ p. is_absent rows (record { stream = s; page = p })) (pages_of range)) ≡ absent_count rows s range = length-filter (λ p. is_absent rows (record { stream = s; page = p })) (pages_of range) in
        let few : length (pages_in s rows) + length (filter (λ p. is_absent rows (record { stream = s; page = p })) (pages_of range)) ≤ length (dirty_pages (history past s)) =
        both_within (has_row s) (pages_in s rows) (filter (λ p. is_absent rows (record { stream = s; page = p })) (pages_of range)) (dirty_pages (history past s))
        (rises-pages_in s rows (ordered rows sound.ascending)) (rises-filter (λ p. is_absent rows (record { stream = s; page = p })) (pages_of range) (rises-pages range)) (row-among s) absent-among in
        omega arith

    each-within : (t : ℕ) → count_by (is_row_of_stream t) rows + cond (s == t) (absent_count rows s range) 0 ≤ dirty_count (history past t)
    each-within t = go (s == t) refl
      where
        go : (b : Bool) → (s == t) ≡ b → count_by (is_row_of_stream t) rows + cond b (absent_count rows s range) 0 ≤ dirty_count (history past t)
        go true same = subst (λ u. count_by (is_row_of_stream u) rows + absent_count rows s range ≤ dirty_count (history past u)) (eqb-true s t same) absent-within
        go false other = let few : count_by (is_row_of_stream t) rows ≤ dirty_count (history past t) = count-within t in omega arith

-- the rows and a range's pages without one are at most as many as the dirty pages, where all are dirty
pub room-absent : (past : List Entry) (rows : List Row) (s : ℕ) (range : Range) → Sound rows → All (λ r. r.page.stream < 16) rows → s < 16
    → ((q : Page) → is_absent rows q ≡ false → is_dirty (history past q.stream) q.page ≡ true) → ((p : ℕ) → has_page range p ≡ true → is_dirty (history past s) p ≡ true)
    → length rows + absent_count rows s range ≤ dirty_total past
unfolding dirty_total
room-absent past rows s range sound below within dirty in_range =
    let all : length rows ≡ sum_by (λ t. count_by (is_row_of_stream t) rows) (range_with_len 0 16) = length-streams 16 rows below in
    let one : sum_by (λ t. cond (s == t) (absent_count rows s range) 0) (range_with_len 0 16) ≡ absent_count rows s range = sum_by-one s 0 16 (absent_count rows s range) (omega arith) (omega arith) in
    let both : sum_by (λ t. count_by (is_row_of_stream t) rows + cond (s == t) (absent_count rows s range) 0) (range_with_len 0 16) ≡ sum_by (λ t. count_by (is_row_of_stream t) rows) (range_with_len 0 16) + sum_by (λ t. cond (s == t) (absent_count rows s range) 0) (range_with_len 0 16) =
    sum_by-plus (λ t. count_by (is_row_of_stream t) rows) (λ t. cond (s == t) (absent_count rows s range) 0) (range_with_len 0 16) in
    let few : sum_by (λ t. count_by (is_row_of_stream t) rows + cond (s == t) (absent_count rows s range) 0) (range_with_len 0 16) ≤ sum_by (λ t. dirty_count (history past t)) (range_with_len 0 16) =
    sum_by-le-sum_by (λ t. count_by (is_row_of_stream t) rows + cond (s == t) (absent_count rows s range) 0) (λ t. dirty_count (history past t)) (range_with_len 0 16) (each-within past rows sound dirty s range in_range) in
    omega arith

-- the pages of a stream that have rows, where the stream is picked
abbrev picked : (ℕ → Bool) → List Row → ℕ → List Page
picked picks rows s = cond (picks s) (map (λ r. r.page) (filter (is_row_of_stream s) rows)) []

flat_map-same : {X : Type 0} (f g : ℕ → List X) (ns : List ℕ) → ((n : ℕ) → f n ≡ g n) → flat_map f ns ≡ flat_map g ns
flat_map-same f g [] same = refl
flat_map-same f g (n ∷ ns) same = rw (same n, flat_map-same f g ns same) refl

from_stream : (a b : Page) → precedes a b ≡ true → a.stream ≤ b.stream
from_stream a b before = grind (arith, nat_tests)

-- no row is of a stream below those of all rows
none-below : (s : ℕ) (r : Row) (rows : List Row) → s < r.page.stream → AllByRecursion (λ b. precedes r.page b.page ≡ true) rows → filter (is_row_of_stream s) rows ≡ []
none-below s r [] less before = refl
none-below s r (b ∷ rows) less before =
    let from : r.page.stream ≤ b.page.stream = from_stream r.page b.page before.0 in
    rw (ne_eqb b.page.stream s (λ e. omega arith)) (none-below s r rows less before.1)

cond-nil : (b : Bool) → cond {A = List Page} b [] [] ≡ []
cond-nil true = refl
cond-nil false = refl

module _ (picks : ℕ → Bool) (r : Row) (rows : List Row) where
  -- a row adds nothing to the streams past its own
  picked-past : (a n : ℕ) → r.page.stream < a → flat_map (picked picks (r ∷ rows)) (range_with_len a n) ≡ flat_map (picked picks rows) (range_with_len a n)
  picked-past a zero past = refl
  picked-past a (suc n) past = rw (ne_eqb r.page.stream a (λ e. omega arith), picked-past (a + 1) n (omega arith)) refl

  picked-more : (a n : ℕ) → AllByRecursion (λ b. precedes r.page b.page ≡ true) rows → a ≤ r.page.stream → r.page.stream < a + n
      → flat_map (picked picks (r ∷ rows)) (range_with_len a n) ≡ cond (picks r.page.stream) (r.page ∷ flat_map (picked picks rows) (range_with_len a n)) (flat_map (picked picks rows) (range_with_len a n))
  picked-more a zero before low high = absurd (omega arith)
  picked-more a (suc n) before low high = go (r.page.stream == a) refl (picked-more (a + 1) n before)
    where
      here : (t u : Bool) (tail : List Page) → t ≡ u
          → cond u (r.page ∷ map (λ r. r.page) (filter (is_row_of_stream a) rows)) [] ++ tail ≡ cond t (r.page ∷ (cond u (map (λ r. r.page) (filter (is_row_of_stream a) rows)) [] ++ tail)) (cond u (map (λ r. r.page) (filter (is_row_of_stream a) rows)) [] ++ tail)
      here true true tail alike = refl
      here true false tail alike = absurd (cc)
      here false true tail alike = absurd (cc)
      here false false tail alike = refl

      go : (b : Bool) → (r.page.stream == a) ≡ b
          → (a + 1 ≤ r.page.stream → r.page.stream < (a + 1) + n → flat_map (picked picks (r ∷ rows)) (range_with_len (a + 1) n) ≡ cond (picks r.page.stream) (r.page ∷ flat_map (picked picks rows) (range_with_len (a + 1) n)) (flat_map (picked picks rows) (range_with_len (a + 1) n)))
          → flat_map (picked picks (r ∷ rows)) (range_with_len a (suc n)) ≡ cond (picks r.page.stream) (r.page ∷ flat_map (picked picks rows) (range_with_len a (suc n))) (flat_map (picked picks rows) (range_with_len a (suc n)))
      go true same rest =
          let e : r.page.stream ≡ a = eqb-true r.page.stream a same in
          rw (picked-past (a + 1) n (omega arith), same) (here (picks r.page.stream) (picks a) (flat_map (picked picks rows) (range_with_len (a + 1) n)) (ap picks e))
      go false other rest =
          let apart : r.page.stream ≡ a → ⊥ = eqb-false r.page.stream a other in
          rw (other, none-below a r rows (omega arith) before, cond-nil (picks a)) (rest (omega arith) (omega arith))

picked-streams : (picks : ℕ → Bool) (n : ℕ) (rows : List Row) → Ordered rows → All (λ r. r.page.stream < n) rows → flat_map (picked picks rows) (range_with_len 0 n) ≡ map (λ r. r.page) (filter (λ r. picks r.page.stream) rows)
picked-streams picks n [] up below = none 0 n
  where
    none : (a n : ℕ) → flat_map (λ s. cond {A = List Page} (picks s) [] []) (range_with_len a n) ≡ []
    none a zero = refl
    none a (suc n) = rw (cond-nil (picks a)) (none (a + 1) n)
picked-streams picks n (r ∷ rows) up below =
    let high : r.page.stream < n = All-head (λ r. r.page.stream < n) r rows below in
    let rest : flat_map (picked picks rows) (range_with_len 0 n) ≡ map (λ r. r.page) (filter (λ r. picks r.page.stream) rows) = picked-streams picks n rows up.1 (All-tail (λ r. r.page.stream < n) r rows below) in
    picked-more picks r rows 0 n up.0 (omega arith) (omega arith) ∙ rw rest (kept (picks r.page.stream) (filter (λ r. picks r.page.stream) rows))
  where
    kept : (t : Bool) (rest : List Row) → cond t (r.page ∷ map (λ r. r.page) rest) (map (λ r. r.page) rest) ≡ map (λ r. r.page) (cond t (r ∷ rest) rest)
    kept true rest = refl
    kept false rest = refl

-- the pages of the rows of a stream, by their numbers
pages-stream : (s : ℕ) (rows : List Row) → map (λ p. record { stream = s; page = p }) (pages_in s rows) ≡ map (λ r. r.page) (filter (is_row_of_stream s) rows)
unfolding pages_in
pages-stream s [] = refl
pages-stream s (r ∷ rows) = go (r.page.stream == s) refl (pages-stream s rows)
  where
    page : s ≡ r.page.stream → ◌≡◌ {A = Page} (record { stream = s; page = r.page.page }) r.page
    page e = let k : ◌≡◌ {A = Page} (record { stream = s; page = r.page.page }) (record { stream = r.page.stream; page = r.page.page }) = cc in k

    go : (t : Bool) → (r.page.stream == s) ≡ t → map (λ p. record { stream = s; page = p }) (map (λ r. r.page.page) (filter (is_row_of_stream s) rows)) ≡ map (λ r. r.page) (filter (is_row_of_stream s) rows)
        → map (λ p. record { stream = s; page = p }) (map (λ r. r.page.page) (cond t (r ∷ filter (is_row_of_stream s) rows) (filter (is_row_of_stream s) rows))) ≡ map (λ r. r.page) (cond t (r ∷ filter (is_row_of_stream s) rows) (filter (is_row_of_stream s) rows))
    go true same rest = rw (page (sym (eqb-true r.page.stream s same)), rest) refl
    go false other rest = rest

-- the dirty pages that the lazy writer looks at are those of the rows of the streams that it writes
pub lazy_pages-rows : (past : List Entry) (rows : List Row) → Follows past rows → Sound rows → All (λ r. r.page.stream < 16) rows
    → lazy_pages past ≡ map (λ r. r.page) (filter (λ r. not (is_temporary (history past r.page.stream)) && not (has_no_write_behind (history past r.page.stream))) rows)
unfolding lazy_pages
lazy_pages-rows past rows follows sound below =
    flat_map-same (written_behind past) (picked picks rows) (range_with_len 0 16) each ∙ picked-streams picks 16 rows (ordered rows sound.ascending) below
  where
    picks : ℕ → Bool
    picks s = not (is_temporary (history past s)) && not (has_no_write_behind (history past s))

    each : (s : ℕ) → written_behind past s ≡ picked picks rows s
    each s = ap (λ ps. cond (picks s) ps []) (ap (map (λ p. record { stream = s; page = p })) (sym (pages_in-dirty past rows s follows sound)) ∙ pages-stream s rows)
