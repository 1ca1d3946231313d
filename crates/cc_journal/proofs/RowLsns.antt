-- The rows of a stream, in order, are its dirty pages, each with the least and the greatest LSN of its stamps.
use Rattle.std.specs.Prelude.{◌≡◌, ℕ, suc, Bool, true, false, cond, ◌==◌, List, [], ◌∷◌, Option, Some, map, filter, refl}
use Rattle.std.specs.List.{AllByRecursion}
use Rattle.std.proofs.Common.{ap, sym, subst, ◌∙◌, arith}
use Rattle.std.proofs.lemmas.Bool.{eqb-true}
use Rattle.std.proofs.lemmas.Bool.Decides.{nat_tests}
use Rattle.std.proofs.lemmas.List.Elements.{recursion_from_All}
use Rattle.cc_entry.specs.Place.{Page}
use Rattle.cc_entry.specs.declared.entry.Entry.{Entry}
use Rattle.cc_dirty.specs.declared.row.Unwritten.{Unwritten}
use Rattle.cc_dirty.specs.declared.row.Row.{Row}
use Rattle.cc_dirty.specs.Order.{same_page, precedes, RowsAscend}
use Rattle.cc_dirty.specs.Table.{row_of, is_row_of_stream, Sound}
use Rattle.cc_journal.specs.Rows.{journal_place, IsRowOf, Follows}
use Rattle.cc_journal.proofs.RowCounts.{dirty_pages-rows}
use Rattle.cc_model.specs.History.{Effect, history}
use Rattle.cc_model.specs.Touches.{dirty_pages}
use Rattle.cc_model.specs.Stamps.{lsns_of}
use Rattle.cc_journal.specs.Stamped.{lsns_in}

-- a page with its LSNs, and a row's
abbrev pub of_page : List Effect → ℕ → ℕ × Option (ℕ × ℕ)
of_page h p = (p, lsns_of h p)

abbrev pub of_row : Row → ℕ × Option (ℕ × ℕ)
of_row r = (r.page.page, lsns_in r)

-- rows in order, by recursion
abbrev pub Ordered : List Row → Type 0
Ordered [] = Unit {0}
Ordered (r ∷ rows) = AllByRecursion (λ b. precedes r.page b.page ≡ true) rows × Ordered rows

pub ordered : (rows : List Row) → RowsAscend rows → Ordered rows
ordered [] up = tt
ordered (r ∷ rows) up = (
  recursion_from_All (λ b. precedes r.page b.page ≡ true) rows (λ k d lt. up 0 (suc k) d (omega arith) (omega arith)),
  ordered rows (λ i j d a b. up (suc i) (suc j) d (omega arith) (omega arith)),
)

apart : (a b : Page) → precedes a b ≡ true → same_page a b ≡ false
apart a b before = grind (arith, nat_tests)

same-itself : (a : Page) → same_page a a ≡ true
same-itself a = grind (arith, nat_tests)

-- the row that is found for the page of a row is that row
own-after : (r : Row) (rows others : List Row) → AllByRecursion (λ b. precedes r.page b.page ≡ true) others → AllByRecursion (λ b. row_of rows b.page ≡ Some b) others → AllByRecursion (λ b. row_of (r ∷ rows) b.page ≡ Some b) others
own-after r rows [] before own = tt
own-after r rows (b ∷ others) before own = (rw (apart r.page b.page before.0) own.0, own-after r rows others before.1 own.1)

own-rows : (rows : List Row) → Ordered rows → AllByRecursion (λ b. row_of rows b.page ≡ Some b) rows
own-rows [] up = tt
own-rows (r ∷ rows) up = (rw (same-itself r.page) refl, own-after r rows rows up.0 (own-rows rows up.1))

module _ (past : List Entry) where
  -- a row has the LSNs of its page
  abbrev HasLsns : Row → Type 0
  HasLsns r = lsns_in r ≡ lsns_of (history past r.page.stream) r.page.page

  own-lsns : (rows : List Row) (r : Row) → Follows past rows → row_of rows r.page ≡ Some r → HasLsns r
  own-lsns rows r follows own = ap (λ (u : Unwritten). u.lsns) (subst (λ (o : Option Row). IsRowOf (journal_place past r.page.stream) (history past r.page.stream) r.page.page o) own (follows r.page)).unwritten

  all-lsns : (rows others : List Row) → Follows past rows → AllByRecursion (λ b. row_of rows b.page ≡ Some b) others → AllByRecursion HasLsns others
  all-lsns rows [] follows own = tt
  all-lsns rows (r ∷ others) follows own = (own-lsns rows r follows own.0, all-lsns rows others follows own.1)

  module _ (s : ℕ) where
    pages-lsns : (rows : List Row) → AllByRecursion HasLsns rows → map (of_page (history past s)) (map (λ r. r.page.page) (filter (is_row_of_stream s) rows)) ≡ map of_row (filter (is_row_of_stream s) rows)
    pages-lsns [] has = refl
    pages-lsns (r ∷ rows) has = go (r.page.stream == s) refl (pages-lsns rows has.1)
      where
        here : r.page.stream ≡ s → lsns_of (history past s) r.page.page ≡ lsns_in r
        here same = sym (has.0 ∙ ap (λ t. lsns_of (history past t) r.page.page) same)

        go : (t : Bool) → (r.page.stream == s) ≡ t → map (of_page (history past s)) (map (λ r. r.page.page) (filter (is_row_of_stream s) rows)) ≡ map of_row (filter (is_row_of_stream s) rows)
            → map (of_page (history past s)) (map (λ r. r.page.page) (cond t (r ∷ filter (is_row_of_stream s) rows) (filter (is_row_of_stream s) rows))) ≡ map of_row (cond t (r ∷ filter (is_row_of_stream s) rows) (filter (is_row_of_stream s) rows))
        go true same rest = rw (here (eqb-true r.page.stream s same), rest) refl
        go false other rest = rest

-- the dirty pages of a stream with their LSNs are its rows, in order
pub rows-are : (past : List Entry) (s : ℕ) (rows : List Row) → Sound rows → Follows past rows → map (of_page (history past s)) (dirty_pages (history past s)) ≡ map of_row (filter (is_row_of_stream s) rows)
rows-are past s rows sound follows =
    ap (map (of_page (history past s))) (sym (dirty_pages-rows past rows s follows sound))
    ∙ pages-lsns past s rows (all-lsns past rows rows follows (own-rows rows (ordered rows sound.ascending)))
