-- How the rows step as the pages of a range are touched one after the other.
use Rattle.std.specs.Prelude.{◌≡◌, ℕ, zero, suc, ◌+◌, ◌-◌, ◌/◌, ◌<◌, ◌≤◌, ◌==◌, ◌&&◌, ◌⊎◌, nat_le, nat_lt, Bool, true, false, List, length, Option, None, Some, IsSome, if◌then◌else◌, refl}
use Rattle.std.specs.List.{range_with_len}
use Rattle.std.proofs.Common.{ap, sym, ◌∙◌, arith, inl, inr}
use Rattle.std.proofs.lemmas.List.Sums.{sum_by-cons}
use Rattle.std.proofs.lemmas.Bool.{eq-eqb, lt-ltb}
use Rattle.std.proofs.lemmas.Bool.Decides.{nat_tests}
use Rattle.cc_entry.specs.Place.{Page}
use Rattle.cc_entry.specs.Pages.{has_page}
use Rattle.cc_dirty.specs.declared.row.Row.{Row}
use Rattle.cc_dirty.specs.Order.{same_page}
use Rattle.cc_dirty.specs.Unwritten.{touched_row}
use Rattle.cc_dirty.specs.Table.{Table, row_of, new_rows, KeepsOtherRows}
use Rattle.cc_events.specs.Touchings.{touch_if}
use Rattle.cc_journal.specs.Rows.{row_after, is_absent, absent_count, absent_count_from, ChangesRows}

-- whether a page number is from `from` up to, and without, `to`
abbrev pub is_in : ℕ → ℕ → ℕ → Bool
is_in from to p = nat_le from p && nat_lt p to

-- the pages of a stream from one number up to another are touched at a place
abbrev pub TouchesTo : ℕ → ℕ → ℕ → ℕ → Option ℕ → List Row → List Row → Type 0
TouchesTo s from to place lsn old new = ChangesRows place s (λ p. touch_if (is_in from to p) lsn) old new

-- what becomes of a page that is touched, or is not, by the test of its stream
abbrev row_if : Bool → Bool → ℕ → Option ℕ → Page → Option Row → Option Row
row_if here within place lsn q row = if here then row_after place (touch_if within lsn) q row else row

-- none is touched before the first
pub touches_none : (s from : ℕ) (place : ℕ) (lsn : Option ℕ) (rows : List Row) → TouchesTo s from from place lsn rows rows
touches_none s from place lsn rows q = go (q.stream == s) out
  where
    out : is_in from from q.page ≡ false
    out = grind (arith, nat_tests)

    go : (b : Bool) → is_in from from q.page ≡ false → row_of rows q ≡ row_if b (is_in from from q.page) place lsn q (row_of rows q)
    go true is = rw is refl
    go false is = refl

-- one page more
pub touches_more : (s from i : ℕ) (place : ℕ) (lsn : Option ℕ) (page : Page) (old now new : List Row) → from ≤ i → page.stream ≡ s → page.page ≡ i → row_of new page ≡ Some (touched_row page place lsn (row_of now page)) → KeepsOtherRows now new page → TouchesTo s from i place lsn old now → TouchesTo s from (i + 1) place lsn old new
touches_more s from i place lsn page old now new above of_stream at touched others before q = go (same_page q page) refl
  where
    other_place : (b : Bool) → (q.stream == s) ≡ b → same_page q page ≡ false → row_if (q.stream == s) (is_in from i q.page) place lsn q (row_of old q) ≡ row_if (q.stream == s) (is_in from (i + 1) q.page) place lsn q (row_of old q)
    other_place true here other =
        let same : is_in from i q.page ≡ is_in from (i + 1) q.page = grind (arith, nat_tests) in
        ap (λ b. row_if (q.stream == s) b place lsn q (row_of old q)) same
    other_place false away other = rw away refl

    go : (b : Bool) → same_page q page ≡ b → row_of new q ≡ row_if (q.stream == s) (is_in from (i + 1) q.page) place lsn q (row_of old q)
    go true same =
        let stream : q.stream ≡ page.stream = grind (arith, nat_tests) in
        let number : q.page ≡ page.page = grind (arith, nat_tests) in
        let is : q ≡ page = ap (λ (n : ℕ). record { stream = n; page = q.page }) stream ∙ ap (λ (n : ℕ). record { stream = page.stream; page = n }) number in
        let here : (q.stream == s) ≡ true = eq-eqb q.stream s (stream ∙ of_stream) in
        let out : is_in from i q.page ≡ false = grind (arith, nat_tests) in
        let within : is_in from (i + 1) q.page ≡ true = grind (arith, nat_tests) in
        let was : row_of now q ≡ row_of old q = before q ∙ (ap (λ b. row_if b (is_in from i q.page) place lsn q (row_of old q)) here ∙ ap (λ b. row_if true b place lsn q (row_of old q)) out) in
        ap (row_of new) is
        ∙ (touched
        ∙ (ap (λ (p : Page). Some (touched_row p place lsn (row_of now p))) (sym is)
        ∙ (ap (λ o. Some (touched_row q place lsn o)) was
        ∙ (ap (λ b. row_if true b place lsn q (row_of old q)) (sym within)
        ∙ ap (λ b. row_if b (is_in from (i + 1) q.page) place lsn q (row_of old q)) (sym here)))))
    go false other = others q other ∙ (before q ∙ other_place (q.stream == s) refl other)

-- the rows that a touch adds are one where the page was absent
added : (o : Option Row) → new_rows o ≡ (if (elim o [ None ↦ true | Some row ↦ false ]) then 1 else 0)
added None = refl
added (Some row) = refl

-- the first of some pages is counted where it is absent
absent_first : (rows : List Row) (s from n : ℕ) → absent_count_from rows s from (suc n) ≡ (if is_absent rows (record { stream = s; page = from }) then 1 else 0) + absent_count_from rows s (from + 1) n
absent_first rows s from n = sum_by-cons (λ p. if is_absent rows (record { stream = s; page = p }) then 1 else 0) from (range_with_len (from + 1) n)

-- a touch of one page leaves absent what was absent from a later number on
absent_later : (s from n i : ℕ) (page : Page) (now new : List Row) → i < from → page.stream ≡ s → page.page ≡ i → KeepsOtherRows now new page → absent_count_from new s from n ≡ absent_count_from now s from n
absent_later s from zero i page now new below of_stream at others = refl
absent_later s from (suc n) i page now new below of_stream at others =
    let other : same_page (record { stream = s; page = from }) page ≡ false = grind (arith, nat_tests) in
    let same : is_absent new (record { stream = s; page = from }) ≡ is_absent now (record { stream = s; page = from }) = ap (λ (o : Option Row). elim o [ None ↦ true | Some row ↦ false ]) (others (record { stream = s; page = from }) other) in
    absent_first new s from n
    ∙ (ap (λ b. (if b then 1 else 0) + absent_count_from new s (from + 1) n) same
    ∙ (ap (λ k. (if is_absent now (record { stream = s; page = from }) then 1 else 0) + k) (absent_later s (from + 1) n i page now new (omega (arith, below)) of_stream at others)
    ∙ sym (absent_first now s from n)))

-- the rows while the pages are touched: those before a number are, and there is room for the rest
pub record TouchedSoFar (s from to i : ℕ) (place : ℕ) (lsn : Option ℕ) (old now : Table) : Type 0 where
  pub rows : TouchesTo s from i place lsn old.rows now.rows
  pub room : length now.rows + absent_count_from now.rows s i (to - i) ≤ now.capacity
  pub capacity : now.capacity ≡ old.capacity

-- the next page is counted where it is absent
next_count : (s i to : ℕ) (rows : List Row) → i < to → absent_count_from rows s i (to - i) ≡ new_rows (row_of rows (record { stream = s; page = i })) + absent_count_from rows s (i + 1) (to - (i + 1))
next_count s i to rows more =
    let one : to - i ≡ suc (to - (i + 1)) = omega (arith, more) in
    ap (absent_count_from rows s i) one
    ∙ (absent_first rows s i (to - (i + 1))
    ∙ ap (λ k. k + absent_count_from rows s (i + 1) (to - (i + 1))) (sym (added (row_of rows (record { stream = s; page = i })))))

-- there is room for the next page
pub touch_fits : (s from to i : ℕ) (place : ℕ) (lsn : Option ℕ) (old now : Table) (page : Page) → i < to → page.stream ≡ s → page.page ≡ i → TouchedSoFar s from to i place lsn old now → IsSome (row_of now.rows page) ⊎ (length now.rows < now.capacity)
touch_fits s from to i place lsn old now page more of_stream at so_far = go (row_of now.rows page) refl
  where
    is : page ≡ record { stream = s; page = i }
    is = ap (λ (n : ℕ). record { stream = n; page = page.page }) of_stream ∙ ap (λ (n : ℕ). record { stream = s; page = n }) at

    go : (o : Option Row) → row_of now.rows page ≡ o → IsSome o ⊎ (length now.rows < now.capacity)
    go None none =
        let one : new_rows (row_of now.rows (record { stream = s; page = i })) ≡ 1 = ap (λ p. new_rows (row_of now.rows p)) (sym is) ∙ ap new_rows none in
        inr (omega (arith, so_far.room, next_count s i to now.rows more, one))
    go (Some row) found = inl refl

-- one page more is touched
pub touch_step : (s from to i : ℕ) (place : ℕ) (lsn : Option ℕ) (old now new : Table) (page : Page) → from ≤ i → i < to → page.stream ≡ s → page.page ≡ i → row_of new.rows page ≡ Some (touched_row page place lsn (row_of now.rows page)) → KeepsOtherRows now.rows new.rows page → length new.rows ≡ length now.rows + new_rows (row_of now.rows page) → new.capacity ≡ now.capacity → TouchedSoFar s from to i place lsn old now → TouchedSoFar s from to (i + 1) place lsn old new
touch_step s from to i place lsn old now new page above more of_stream at touched others count capacity so_far = record {
  rows = touches_more s from i place lsn page old.rows now.rows new.rows above of_stream at touched others so_far.rows;
  room = omega (arith, so_far.room, next_count s i to now.rows more, count, ap (λ p. new_rows (row_of now.rows p)) is, absent_later s (i + 1) (to - (i + 1)) i page now.rows new.rows (omega arith) of_stream at others, capacity);
  capacity = capacity ∙ so_far.capacity;
}
  where
    is : page ≡ record { stream = s; page = i }
    is = ap (λ (n : ℕ). record { stream = n; page = page.page }) of_stream ∙ ap (λ (n : ℕ). record { stream = s; page = n }) at

-- the pages of a range of bytes, by their numbers
in_range : (from to p : ℕ) → from < to → is_in (from / 4096) ((to - 1) / 4096 + 1) p ≡ has_page (record { from = from; to = to }) p
in_range from to p some = grind (arith, nat_tests)

pub touches_range : (s from to : ℕ) (place : ℕ) (lsn : Option ℕ) (old new : List Row) → from < to → TouchesTo s (from / 4096) ((to - 1) / 4096 + 1) place lsn old new → ChangesRows place s (λ p. touch_if (has_page (record { from = from; to = to }) p) lsn) old new
touches_range s from to place lsn old new some touched q = touched q ∙ ap (λ b. row_if (q.stream == s) b place lsn q (row_of old q)) (in_range from to q.page some)

pub touches_nothing : (s from to : ℕ) (place : ℕ) (lsn : Option ℕ) (rows : List Row) → to ≤ from → ChangesRows place s (λ p. touch_if (has_page (record { from = from; to = to }) p) lsn) rows rows
touches_nothing s from to place lsn rows empty q = go (q.stream == s) out
  where
    out : has_page (record { from = from; to = to }) q.page ≡ false
    out = grind (arith, nat_tests)

    go : (b : Bool) → has_page (record { from = from; to = to }) q.page ≡ false → row_of rows q ≡ row_if b (has_page (record { from = from; to = to }) q.page) place lsn q (row_of rows q)
    go true is = rw is refl
    go false is = refl

-- the room of a range is that of its pages' numbers
pub range_absent : (s from to : ℕ) (rows : List Row) → from < to → absent_count rows s (record { from = from; to = to }) ≡ absent_count_from rows s (from / 4096) (((to - 1) / 4096 + 1) - from / 4096)
range_absent s from to rows some = rw (lt-ltb from to some) refl

-- a range has its last page, so that lies where all of them do
pub last_below : (from to most : ℕ) → from < to → ((p : ℕ) → has_page (record { from = from; to = to }) p ≡ true → p < most) → (to - 1) / 4096 < most
last_below from to most some within = within ((to - 1) / 4096) has
  where
    has : has_page (record { from = from; to = to }) ((to - 1) / 4096) ≡ true
    has = grind (arith, nat_tests)
