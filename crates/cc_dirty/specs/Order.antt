-- Pages by stream, and in a stream by number.
use Rattle.std.specs.Prelude.{◌≡◌, ℕ, ◌==◌, ◌<◌, ◌≤◌, Bool, true, false, ◌&&◌, ◌||◌, nat_lt, nat_le, List, AllPairs, length, slice_index_or}
use Rattle.cc_entry.specs.Place.{Page}
use Rattle.cc_dirty.specs.declared.row.Row.{Row}

abbrev pub same_page : Page → Page → Bool
same_page a b = a.stream == b.stream && a.page == b.page

abbrev pub precedes : Page → Page → Bool
precedes a b = nat_lt a.stream b.stream || (a.stream == b.stream && nat_lt a.page b.page)

-- whether a page is of this stream and not below this number
abbrev pub is_from : ℕ → ℕ → Page → Bool
is_from stream number q = q.stream == stream && nat_le number q.page

-- whether a page is of this stream, from a number up to, and without, another one
abbrev pub is_between : ℕ → ℕ → ℕ → Page → Bool
is_between stream from to q = is_from stream from q && nat_lt q.page to

-- rows stand in the order of their pages, one for each page
abbrev pub RowsAscend : List Row → Type 0
RowsAscend rows = AllPairs (λ a b. precedes a.page b.page ≡ true) rows

-- the rows before this place precede the page, and the others don't
pub record SplitsAt (rows : List Row) (page : Page) (place : ℕ) : Type 0 where
  pub before : (k : ℕ) (d : Row) → k < place → precedes (slice_index_or rows k d).page page ≡ true
  pub after : (k : ℕ) (d : Row) → place ≤ k → k < length rows → precedes (slice_index_or rows k d).page page ≡ false
