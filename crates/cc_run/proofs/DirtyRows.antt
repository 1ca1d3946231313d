-- The rows of the dirty page table are the table of the run.
use Rattle.std.specs.Prelude.{◌≡◌, ℕ, zero, suc, ◌+◌, ◌<◌, ◌≤◌, ◌==◌, ◌||◌, Bool, true, false, List, [], ◌∷◌, ◌++◌, map, All, is_some, refl}
use Rattle.std.specs.declared.option.Option.{Option}
use Rattle.std.specs.declared.option.Option.TheVariants.{Some, None}
use Rattle.std.specs.List.{AllByRecursion, flat_map, range_with_len}
use Rattle.std.proofs.Common.{cond, sym, ap, subst, ◌∙◌, arith}
use Rattle.std.proofs.lemmas.Bool.{eqb-true, eqb-false, eq-eqb, ne_eqb}
use Rattle.std.proofs.lemmas.Bool.Decides.{nat_tests}
use Rattle.std.proofs.lemmas.List.{map-append}
use Rattle.cc_entry.specs.Place.{Page}
use Rattle.cc_entry.specs.Lsns.{joined as joined_lsns}
use Rattle.cc_entry.specs.declared.entry.Entry.{Entry}
use Rattle.cc_dirty.specs.Order.{precedes, same_page, RowsAscend}
use Rattle.cc_dirty.specs.Unwritten.{is_touched}
use Rattle.cc_dirty.specs.Table.{row_of, Sound}
use Rattle.cc_dirty.specs.declared.row.Row.{Row}
use Rattle.cc_model.specs.Numbers.{is_among, ascending}
use Rattle.cc_model.specs.History.{Effect, history}
use Rattle.cc_model.specs.Touches.{touched, touches, is_dirty, dirty_pages}
use Rattle.cc_model.specs.Stamps.{lsns_among}
use Rattle.cc_laws.proofs.BlockPages.{Above, Rises, rises-ascending, rises-filter}
use Rattle.cc_laws.proofs.DirtyAmong.{dirty-among, dirty_pages-dirty}
use Rattle.cc_journal.specs.Rows.{Follows, IsRowOf, journal_place}
use Rattle.cc_journal.proofs.RowSteps.{some-oldest}
use Rattle.cc_print.specs.declared.table.TableRow.{TableRow}
use Rattle.cc_pieces.specs.Table.{table_row_of as table_row, table_rows_of, table_of}
use Rattle.cc_run.specs.Rows.{printed_row}
use Rattle.cc_run.proofs.Ascending.{rises-equal}
use Rattle.cc_run.proofs.Lists.{all-map, all-both, all-front, all-back}

precedes-least : (a b : Page) → precedes a b ≡ true → a.stream ≤ b.stream
precedes-least a b is = grind (arith, nat_tests)

precedes-number : (a b : Page) → a.stream ≡ b.stream → precedes a b ≡ true → a.page < b.page
precedes-number a b same is = grind (arith, nat_tests)

precedes-differs : (a b : Page) → precedes a b ≡ true → same_page a b ≡ false
precedes-differs a b is = grind (arith, nat_tests)

other-stream : (a b : Page) → a.stream < b.stream → same_page a b ≡ false
other-stream a b less = grind (arith, nat_tests)

same-refl : (a : Page) → same_page a a ≡ true
same-refl a = grind (arith, nat_tests)

-- each row stands before those behind it, is touched, and of one of the 16 streams
abbrev Ordered : List Row → Type 0
Ordered [] = Unit {0}
Ordered (r ∷ rows) = AllByRecursion (λ q. precedes r.page q.page ≡ true) rows × (is_touched r ≡ true) × (r.page.stream < 16) × Ordered rows

all-each : (P : Row → Type 0) (rows : List Row) → All P rows → AllByRecursion P rows
all-each P [] all = tt
all-each P (r ∷ rows) all = (all 0 r (omega arith), all-each P rows (λ k d low. all (suc k) d (omega (arith, low))))

ordered : (rows : List Row) → RowsAscend rows → All (λ r. is_touched r ≡ true) rows → All (λ r. r.page.stream < 16) rows → Ordered rows
ordered [] ascend touch few = tt
ordered (r ∷ rows) ascend touch few = (
  all-each (λ q. precedes r.page q.page ≡ true) rows (λ k d low. ascend 0 (suc k) d (omega arith) (omega (arith, low))),
  touch 0 r (omega arith),
  few 0 r (omega arith),
  ordered rows (λ i j d less low. ascend (suc i) (suc j) d (omega (arith, less)) (omega (arith, low))) (λ k d low. touch (suc k) d (omega (arith, low)))
      (λ k d low. few (suc k) d (omega (arith, low))),
)

-- the rows of a stream, and those of the streams above
record Split (a : ℕ) (rows : List Row) : Type 0 where
  here : List Row
  above : List Row
  rows_are : rows ≡ here ++ above
  of_stream : AllByRecursion (λ r. r.page.stream ≡ a) here
  of_others : AllByRecursion (λ r. a < r.page.stream) above
  here_ordered : Ordered here
  above_ordered : Ordered above

split : (a : ℕ) (rows : List Row) → Ordered rows → AllByRecursion (λ r. a ≤ r.page.stream) rows → Split a rows
split a [] order least = record { here = []; above = []; rows_are = refl; of_stream = tt; of_others = tt; here_ordered = tt; above_ordered = tt }
split a (r ∷ rows) order least = by (r.page.stream == a) refl (split a rows order.3 least.1)
  where
    by : (b : Bool) → (r.page.stream == a) ≡ b → Split a rows → Split a (r ∷ rows)
    by true is rest = record {
      here = r ∷ rest.here;
      above = rest.above;
      rows_are = ap (λ l. r ∷ l) rest.rows_are;
      of_stream = (eqb-true r.page.stream a is, rest.of_stream);
      of_others = rest.of_others;
      here_ordered = (all-front (λ q. precedes r.page q.page ≡ true) rest.here rest.above (rw rest.rows_are at order.0), order.1, order.2, rest.here_ordered);
      above_ordered = rest.above_ordered;
    }
    by false other rest =
        let apart : (r.page.stream ≡ a → ⊥) = eqb-false r.page.stream a other in
        let higher : a < r.page.stream = omega (arith, least.0, apart) in
        record {
          here = [];
          above = r ∷ rows;
          rows_are = refl;
          of_stream = tt;
          of_others = (higher, all-map (λ q. precedes r.page q.page ≡ true) (λ q. a < q.page.stream) rows (λ q before. omega (arith, higher, precedes-least r.page q.page before)) order.0);
          here_ordered = tt;
          above_ordered = order;
        }

-- which row is found
find-none : (rows : List Row) (q : Page) → AllByRecursion (λ r. same_page r.page q ≡ false) rows → row_of rows q ≡ None
find-none [] q none = refl
find-none (r ∷ rows) q none = rw none.0 (find-none rows q none.1)

find-skip : (here above : List Row) (q : Page) → AllByRecursion (λ r. same_page r.page q ≡ false) here → row_of (here ++ above) q ≡ row_of above q
find-skip [] above q none = refl
find-skip (r ∷ here) above q none = rw none.0 (find-skip here above q none.1)

find-front : (here above : List Row) (q : Page) → AllByRecursion (λ r. same_page r.page q ≡ false) above → row_of (here ++ above) q ≡ row_of here q
find-front [] above q none = find-none above q none
find-front (r ∷ here) above q none = by (same_page r.page q) (find-front here above q none)
  where
    by : (b : Bool) → row_of (here ++ above) q ≡ row_of here q → cond b (Some r) (row_of (here ++ above) q) ≡ cond b (Some r) (row_of here q)
    by true rest = refl
    by false rest = rest

find-touched : (rows : List Row) (q : Page) (r : Row) → Ordered rows → row_of rows q ≡ Some r → is_touched r ≡ true
find-touched [] q r order found = absurd (cc)
find-touched (x ∷ rows) q r order found = by (same_page x.page q) found (find-touched rows q r order.3)
  where
    by : (b : Bool) → cond b (Some x) (row_of rows q) ≡ Some r → (row_of rows q ≡ Some r → is_touched r ≡ true) → is_touched r ≡ true
    by true is rest = let same : x ≡ r = cc is in rw (← same) order.1
    by false is rest = rest is

-- each row is the one that is found for its page
found-each : (rows : List Row) → Ordered rows → AllByRecursion (λ r. row_of rows r.page ≡ Some r) rows
found-each [] order = tt
found-each (r ∷ rows) order = (
  rw (same-refl r.page) refl,
  all-map (λ q. (precedes r.page q.page ≡ true) × (row_of rows q.page ≡ Some q)) (λ q. row_of (r ∷ rows) q.page ≡ Some q) rows
      (λ q both. rw (precedes-differs r.page q.page both.0) both.1)
      (all-both (λ q. precedes r.page q.page ≡ true) (λ q. row_of rows q.page ≡ Some q) rows order.0 (found-each rows order.3)),
)

-- the numbers of the pages of one stream
above-numbers : (r : Row) (rows : List Row) → AllByRecursion (λ q. precedes r.page q.page ≡ true) rows → AllByRecursion (λ q. q.page.stream ≡ r.page.stream) rows → Above r.page.page (map (λ q. q.page.page) rows)
above-numbers r [] before same = tt
above-numbers r (q ∷ rows) before same = (precedes-number r.page q.page (sym same.0) before.0, above-numbers r rows before.1 same.1)

rises-numbers : (a : ℕ) (rows : List Row) → Ordered rows → AllByRecursion (λ r. r.page.stream ≡ a) rows → Rises (map (λ r. r.page.page) rows)
rises-numbers a [] order same = tt
rises-numbers a (r ∷ rows) order same = (
  above-numbers r rows order.0 (all-map (λ q. q.page.stream ≡ a) (λ q. q.page.stream ≡ r.page.stream) rows (λ q is. is ∙ sym same.0) same.1),
  rises-numbers a rows order.3 same.1,
)

among-numbers : (a p : ℕ) (rows : List Row) → AllByRecursion (λ r. r.page.stream ≡ a) rows → is_among p (map (λ r. r.page.page) rows) ≡ is_some (row_of rows (record { stream = a; page = p }))
among-numbers a p [] same = refl
among-numbers a p (r ∷ rows) same = rw (same.0, eq-eqb a a refl) (by _ (r.page.page == p) (among-numbers a p rows same.1))
  where
    by : (x : Row) (b : Bool) → is_among p (map (λ r. r.page.page) rows) ≡ is_some (row_of rows (record { stream = a; page = p })) → (b || is_among p (map (λ r. r.page.page) rows)) ≡ is_some (cond b (Some x) (row_of rows (record { stream = a; page = p })))
    by x true rest = refl
    by x false rest = rest

among-dirty : (h : List Effect) (p : ℕ) → is_among p (dirty_pages h) ≡ is_dirty h p
among-dirty h p = by (is_among p (dirty_pages h)) refl (is_dirty h p) refl
  where
    by : (b : Bool) → is_among p (dirty_pages h) ≡ b → (d : Bool) → is_dirty h p ≡ d → b ≡ d
    by true is d dirty = sym (dirty_pages-dirty h p is) ∙ dirty
    by false is true dirty = absurd (cc (is, dirty-among h p dirty))
    by false is false dirty = refl

-- a page is dirty where it has a row
dirty-row : (place : ℕ → ℕ) (h : List Effect) (p : ℕ) (row : Option Row) → ((r : Row) → row ≡ Some r → is_touched r ≡ true) → IsRowOf place h p row → is_some row ≡ is_dirty h p
dirty-row place h p None touch is = ap (λ u. is_some u.oldest) is.unwritten ∙ some-oldest place (touches false h p)
dirty-row place h p (Some r) touch is = sym (touch r refl) ∙ (ap (λ u. is_some u.oldest) is.unwritten ∙ some-oldest place (touches false h p))

map-each : (f : Row → TableRow) (g : ℕ → TableRow) (rows : List Row) → AllByRecursion (λ r. f r ≡ g r.page.page) rows → map f rows ≡ map g (map (λ r. r.page.page) rows)
map-each f g [] all = refl
map-each f g (r ∷ rows) all = ap (λ x. x ∷ map f rows) all.0 ∙ ap (λ l. g r.page.page ∷ l) (map-each f g rows all.1)

page-is : (q : Page) (a : ℕ) → q.stream ≡ a → q ≡ record { stream = a; page = q.page }
page-is q a is = ap (λ s. let made : Page = record { stream = s; page = q.page } in made) is

-- the rows of one stream are those of the table
stream-rows : (past : List Entry) (a : ℕ) (rows : List Row) → Ordered rows → AllByRecursion (λ r. r.page.stream ≡ a) rows → ((p : ℕ) → IsRowOf (journal_place past a) (history past a) p (row_of rows (record { stream = a; page = p }))) → map printed_row rows ≡ table_rows_of past a
stream-rows past a rows order same stand =
    map-each printed_row (table_row a (history past a)) rows
    (all-map (λ r. (r.page.stream ≡ a) × (row_of rows r.page ≡ Some r)) (λ r. printed_row r ≡ table_row a (history past a) r.page.page) rows (λ r both. each r both.0 both.1)
    (all-both (λ r. r.page.stream ≡ a) (λ r. row_of rows r.page ≡ Some r) rows same (found-each rows order)))
    ∙ ap (map (table_row a (history past a))) (rises-equal (map (λ r. r.page.page) rows) (dirty_pages (history past a)) (rises-numbers a rows order same)
    (rises-filter (is_dirty (history past a)) (ascending (touched (history past a))) (rises-ascending (touched (history past a))))
    (λ p. among-numbers a p rows same ∙ (dirty-row (journal_place past a) (history past a) p (row_of rows (record { stream = a; page = p })) (λ r found. find-touched rows (record { stream = a; page = p }) r order found) (stand p)
    ∙ sym (among-dirty (history past a) p))))
  where
    each : (r : Row) → r.page.stream ≡ a → row_of rows r.page ≡ Some r → printed_row r ≡ table_row a (history past a) r.page.page
    each r of_stream found =
        let page = page-is r.page a of_stream in
        let stands : IsRowOf (journal_place past a) (history past a) r.page.page (Some r) = subst (IsRowOf (journal_place past a) (history past a) r.page.page) (ap (row_of rows) (sym page) ∙ found) (stand r.page.page) in
        let lsns : joined_lsns r.begun.lsns r.later.lsns ≡ lsns_among (touches false (history past a) r.page.page) = ap (λ u. u.lsns) stands.unwritten in
        rw (lsns, page) refl

-- the rows of several streams
rows-from : (past : List Entry) (a n : ℕ) (rows : List Row) → Ordered rows → AllByRecursion (λ r. (a ≤ r.page.stream) × (r.page.stream < a + n)) rows → ((q : Page) → a ≤ q.stream → IsRowOf (journal_place past q.stream) (history past q.stream) q.page (row_of rows q)) → map printed_row rows ≡ flat_map (table_rows_of past) (range_with_len a n)
rows-from past a zero [] order within stand = refl
rows-from past a zero (r ∷ rows) order within stand = absurd (omega (arith, within.0.0, within.0.1))
rows-from past a (suc n) rows order within stand =
    ap (map printed_row) s.rows_are ∙ (map-append printed_row s.here s.above
    ∙ (ap (λ l. l ++ map printed_row s.above) (stream-rows past a s.here s.here_ordered s.of_stream here-stand)
    ∙ ap (λ l. table_rows_of past a ++ l) (rows-from past (a + 1) n s.above s.above_ordered above-within above-stand)))
  where
    s : Split a rows
    s = split a rows order (all-map (λ r. (a ≤ r.page.stream) × (r.page.stream < a + suc n)) (λ r. a ≤ r.page.stream) rows (λ r both. both.0) within)

    here-stand : (p : ℕ) → IsRowOf (journal_place past a) (history past a) p (row_of s.here (record { stream = a; page = p }))
    here-stand p =
        subst (IsRowOf (journal_place past a) (history past a) p) (ap (λ l. row_of l (record { stream = a; page = p })) s.rows_are
        ∙ find-front s.here s.above (record { stream = a; page = p }) (all-map (λ r. a < r.page.stream) (λ r. same_page r.page (record { stream = a; page = p }) ≡ false) s.above (λ r higher. after r higher) s.of_others))
        (stand (record { stream = a; page = p }) (omega arith))
      where
        after : (r : Row) → a < r.page.stream → same_page r.page (record { stream = a; page = p }) ≡ false
        after r higher = rw (ne_eqb r.page.stream a (λ e. omega (arith, e, higher))) refl

    above-stand : (q : Page) → a + 1 ≤ q.stream → IsRowOf (journal_place past q.stream) (history past q.stream) q.page (row_of s.above q)
    above-stand q higher =
        subst (IsRowOf (journal_place past q.stream) (history past q.stream) q.page) (ap (λ l. row_of l q) s.rows_are
        ∙ find-skip s.here s.above q (all-map (λ r. r.page.stream ≡ a) (λ r. same_page r.page q ≡ false) s.here (λ r is. other-stream r.page q (omega (arith, is, higher))) s.of_stream))
        (stand q (omega (arith, higher)))

    above-within : AllByRecursion (λ r. (a + 1 ≤ r.page.stream) × (r.page.stream < a + 1 + n)) s.above
    above-within =
        all-map (λ r. (a < r.page.stream) × (r.page.stream < a + suc n)) (λ r. (a + 1 ≤ r.page.stream) × (r.page.stream < a + 1 + n)) s.above
        (λ r both. (omega (arith, both.0), omega (arith, both.1)))
        (all-both (λ r. a < r.page.stream) (λ r. r.page.stream < a + suc n) s.above s.of_others
        (all-back (λ r. r.page.stream < a + suc n) s.here s.above (rw s.rows_are at (all-map (λ r. (a ≤ r.page.stream) × (r.page.stream < a + suc n)) (λ r. r.page.stream < a + suc n) rows (λ r both. both.1) within))))

few-streams : (rows : List Row) → Ordered rows → AllByRecursion (λ r. (0 ≤ r.page.stream) × (r.page.stream < 0 + 16)) rows
few-streams [] order = tt
few-streams (r ∷ rows) order = ((omega arith, omega (arith, order.2)), few-streams rows order.3)

pub rows-table : (past : List Entry) (rows : List Row) → Follows past rows → Sound rows → map printed_row rows ≡ table_of past
unfolding table_of
rows-table past rows follows sound =
    let order = ordered rows sound.ascending sound.touched sound.numbered in
    rows-from past 0 16 rows order (few-streams rows order) (λ q least. follows q)
