-- The next dirty page of a span.
use Rattle.std.specs.Prelude.{◌≡◌, ℕ, ◌+◌, ◌<◌, ◌≤◌, Bool, true, false, ◌&&◌, ◌==◌, nat_le, nat_lt, List, if◌then◌else◌}
use Rattle.std.specs.declared.option.Option.{Option}
use Rattle.std.specs.declared.option.Option.TheVariants.{Some, None}
use Rattle.cc_entry.specs.Pages.{last_page}
use Rattle.cc_entry.specs.Place.{Range}
use Rattle.cc_dirty.specs.declared.row.Row.{Row}
use Rattle.cc_model.specs.History.{Effect}
use Rattle.cc_model.specs.Ranges.{span_has}
use Rattle.cc_model.specs.Touches.{is_dirty}

-- no page of the span is dirty from one page on
abbrev pub IsCleanFrom : List Effect → Option Range → ℕ → Type 0
IsCleanFrom h span from = (p : ℕ) → from ≤ p → span_has span p ≡ true → is_dirty h p ≡ false

-- a page is the least dirty one of the span from one page on
pub record IsNext (h : List Effect) (span : Option Range) (from page : ℕ) : Type 0 where
  pub from_is : from ≤ page
  pub in_span : span_has span page ≡ true
  pub dirty : is_dirty h page ≡ true
  pub between : (p : ℕ) → from ≤ p → p < page → span_has span p ≡ true → is_dirty h p ≡ false

-- the least dirty page of the span from one page on, where there is one
abbrev pub IsNextDirty : List Effect → Option Range → ℕ → Option ℕ → Type 0
IsNextDirty h span from None = IsCleanFrom h span from
IsNextDirty h span from (Some page) = IsNext h span from page

-- the number after that of the last page of a range, 0 where the range is empty
abbrev pub pages_end : Range → ℕ
pages_end r = if nat_lt r.from r.to then last_page r + 1 else 0

-- whether a row is of a page of a stream's span, from one page on
abbrev pub is_of_span : ℕ → Option Range → ℕ → Row → Bool
is_of_span s span from row = (row.page.stream == s) && (nat_le from row.page.page && span_has span row.page.page)
