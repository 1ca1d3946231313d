-- The bytes, pages and view blocks of a range: the one arithmetic of pages. A page has 4096 bytes, a view
-- block 64 pages, thus 262144 bytes.
use Rattle.std.specs.Prelude.{ℕ, ◌+◌, ◌-◌, ◌*◌, ◌/◌, Bool, ◌&&◌, nat_lt, nat_le, List, [], if◌then◌else◌}
use Rattle.std.specs.List.{range_with_len, list_any}
use Rattle.cc_entry.specs.Place.{Range}

-- n bytes from `at` on
abbrev pub whole_range : ℕ → ℕ → Range
whole_range at n = record { from = at; to = at + n }

-- whether the range has the byte at i
abbrev pub has_byte : Range → ℕ → Bool
has_byte r i = nat_le r.from i && nat_lt i r.to

-- whether the range has a byte in the page
abbrev pub has_page : Range → ℕ → Bool
has_page r p = nat_lt r.from r.to && (nat_lt r.from (4096 * p + 4096) && nat_lt (4096 * p) r.to)

-- the number of the last page of a range that has a byte
abbrev pub last_page : Range → ℕ
last_page r = (r.to - 1) / 4096

-- the pages of the range, ascending
abbrev pub pages_of : Range → List ℕ
pages_of r = if nat_lt r.from r.to then range_with_len (r.from / 4096) ((last_page r + 1) - r.from / 4096) else []

-- whether two ranges have bytes in one page
abbrev pub share_page : Range → Range → Bool
share_page a b = list_any (has_page a) (pages_of b)

-- the view block of a page
abbrev pub block_of : ℕ → ℕ
block_of p = p / 64

-- the number of the last view block of a range that has a byte
abbrev pub last_block : Range → ℕ
last_block r = (r.to - 1) / 262144

-- the view blocks of the range, ascending
abbrev pub blocks_of : Range → List ℕ
blocks_of r = if nat_lt r.from r.to then range_with_len (r.from / 262144) ((last_block r + 1) - r.from / 262144) else []
