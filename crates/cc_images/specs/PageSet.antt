-- A set of pages that is kept as ranges.
use Rattle.std.specs.Prelude.{◌≡◌, ℕ, ◌+◌, ◌-◌, ◌<◌, ◌≤◌, ◌==◌, nat_lt, nat_le, ◌&&◌, Bool, true, List, length, if◌then◌else◌}
use Rattle.std.specs.List.{list_any, count_by, HoldsAt}
use Rattle.cc_images.specs.declared.page_range.PageRange.{PageRange}

-- the ranges, in no order, and for how many there is room
pub record PageSet : Type 0 where
  pub ranges : List PageRange
  pub room : ℕ

abbrev pub is_in_range : ℕ → PageRange → Bool
is_in_range page range = nat_le range.first page && nat_le page range.last

-- whether a range ends before a page
abbrev pub ends_before : ℕ → PageRange → Bool
ends_before page range = range.last + 1 == page

-- whether it begins behind one
abbrev pub begins_behind : ℕ → PageRange → Bool
begins_behind page range = page + 1 == range.first

abbrev pub is_in_ranges : ℕ → List PageRange → Bool
is_in_ranges page ranges = list_any (is_in_range page) ranges

abbrev pub is_in_set : ℕ → PageSet → Bool
is_in_set page pages = is_in_ranges page pages.ranges

-- how many of the ranges have a page
abbrev pub ranges_with : ℕ → List PageRange → ℕ
ranges_with page ranges = count_by (is_in_range page) ranges

-- a range with the page stands at this place
abbrev pub IsRangeOf : ℕ → ℕ → List PageRange → Type 0
IsRangeOf page place ranges = (place < length ranges) × HoldsAt (λ range. is_in_range page range ≡ true) ranges place

-- no page is in two ranges
abbrev pub AreDisjoint : List PageRange → Type 0
AreDisjoint ranges = (page : ℕ) → ranges_with page ranges ≤ 1

abbrev pub one_if : Bool → ℕ
one_if b = if b then 1 else 0

-- how many of the two pages beside a page are in a set
abbrev pub neighbours : (ℕ → Bool) → ℕ → ℕ
neighbours has page = one_if (nat_lt 0 page && has (page - 1)) + one_if (has (page + 1))
