-- The dirty page table.
use Rattle.std.specs.Prelude.{◌≡◌, ℕ, ◌<◌, ◌==◌, Bool, true, false, not, All, List, Option, None, Some, find, filter}
use Rattle.cc_entry.specs.Place.{Page}
use Rattle.cc_dirty.specs.Order.{same_page, RowsAscend}
use Rattle.cc_dirty.specs.Unwritten.{is_touched}
use Rattle.cc_dirty.specs.declared.row.Row.{Row}

-- rows by page, and how many there is room for
pub record Table : Type 0 where
  pub rows : List Row
  pub capacity : ℕ

-- the row of a page
abbrev pub row_of : List Row → Page → Option Row
row_of rows page = find (λ r. same_page r.page page) rows

-- how many rows a touch adds, given the row that the page has
abbrev pub new_rows : Option Row → ℕ
new_rows None = 1
new_rows (Some row) = 0

-- every other page has the row that it had
abbrev pub KeepsOtherRows : List Row → List Row → Page → Type 0
KeepsOtherRows old new page = (q : Page) → same_page q page ≡ false → row_of new q ≡ row_of old q

-- the pages that are picked lost their rows, and every other page has the row that it had
pub record DropsPages (picks : Page → Bool) (old new : List Row) : Type 0 where
  pub rows : new ≡ filter (λ r. not (picks r.page)) old
  pub dropped : (q : Page) → picks q ≡ true → row_of new q ≡ None
  pub others : (q : Page) → picks q ≡ false → row_of new q ≡ row_of old q

-- whether a row is of this stream
abbrev pub is_row_of_stream : ℕ → Row → Bool
is_row_of_stream stream r = r.page.stream == stream

-- rows in the order of their pages, each touched, and of one of the 16 streams
pub record Sound (rows : List Row) : Type 0 where
  pub ascending : RowsAscend rows
  pub touched : All (λ r. is_touched r ≡ true) rows
  pub numbered : All (λ r. r.page.stream < 16) rows
