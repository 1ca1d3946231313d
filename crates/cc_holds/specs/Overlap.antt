-- When two ranges share a page, by their ends and by their bytes.
use Rattle.std.specs.Prelude.{◌≡◌, ℕ, ◌/◌, ◌<◌, ◌≤◌, Bool, ◌&&◌, nat_lt, nat_le}
use Rattle.cc_entry.specs.Place.{Range}
use Rattle.cc_entry.specs.Pages.{last_page}

-- both have a byte, and neither begins in a page past the last one of the other
abbrev pub ends_share_page : Range → Range → Bool
ends_share_page a b =
    nat_lt a.from a.to && nat_lt b.from b.to && nat_le (a.from / 4096) (last_page b) && nat_le (b.from / 4096) (last_page a)

-- a byte of the one and a byte of the other lie in one page
abbrev pub HaveBytesInOnePage : Range → Range → Type 0
HaveBytesInOnePage a b =
    (x : ℕ) × (y : ℕ) × (a.from ≤ x) × (x < a.to) × (b.from ≤ y) × (y < b.to) × (x / 4096 ≡ y / 4096)
