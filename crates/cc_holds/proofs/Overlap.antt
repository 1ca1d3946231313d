-- Ranges share a page where their ends say so, and have bytes in it.
use Rattle.std.proofs.Common.{◌≡◌, ℕ, zero, suc, ◌+◌, ◌-◌, ◌*◌, ◌/◌, ◌<◌, ◌≤◌, Bool, true, false, ◌&&◌, ◌↔◌, IsTrue, inl, inr, refl, sym, ◌∙◌, nat_lt, nat_le, if◌then◌else◌, [], arith}
use Rattle.std.proofs.lemmas.Bool.{cases_lt}
use Rattle.std.proofs.lemmas.Bool.Decides.{nat_tests}
use Rattle.std.specs.List.{range_with_len, list_any}
use Rattle.cc_entry.specs.Place.{Range}
use Rattle.cc_entry.specs.Pages.{has_page, last_page, share_page}
use Rattle.cc_holds.specs.Overlap.{ends_share_page, HaveBytesInOnePage}

-- a range has a byte in the pages from that of its first byte to that of its last one
has_page-ends : (a : Range) (p : ℕ) → has_page a p ≡ (nat_lt a.from a.to && (nat_le (a.from / 4096) p && nat_le p (last_page a)))
has_page-ends a p = grind (arith, nat_tests)

-- and so in one of some pages in a row, where its first page is not past them and they begin in or before its last one
any_page-ends : (a : Range) (first n : ℕ)
    → list_any (has_page a) (range_with_len first n) ≡ (nat_lt a.from a.to && (nat_lt 0 n && (nat_le (a.from / 4096) (first + n - 1) && nat_le first (last_page a))))
any_page-ends a first zero = grind (arith, nat_tests)
any_page-ends a first (suc n) =
    let rest = any_page-ends a (first + 1) n in
    let here = has_page-ends a first in
    grind (arith, nat_tests, rest, here)

in_pages : (a b : Range) (some : Bool) → nat_lt b.from b.to ≡ some
    → list_any (has_page a) (if some then range_with_len (b.from / 4096) ((last_page b + 1) - b.from / 4096) else []) ≡ ends_share_page a b
in_pages a b true is =
    let ends = any_page-ends a (b.from / 4096) ((last_page b + 1) - b.from / 4096) in
    grind (arith, nat_tests, ends, is)
in_pages a b false is = grind (arith, nat_tests, is)

-- the comparison of the ends says whether two ranges share a page
pub share_page-ends : (a b : Range) → share_page a b ≡ ends_share_page a b
share_page-ends a b = in_pages a b (nat_lt b.from b.to) refl

-- the pages of the ends, in terms of order alone
bytes_of_pages : (from to start end : ℕ) → from < to → start < end → from / 4096 ≤ (end - 1) / 4096 → start / 4096 ≤ (to - 1) / 4096
    → HaveBytesInOnePage (record { from = from; to = to }) (record { from = start; to = end })
bytes_of_pages from to start end some others a b = elim (cases_lt (from / 4096) (start / 4096)) [
  | inl before ↦ (4096 * (start / 4096), start, omega arith, omega arith, omega arith, omega arith, omega arith)
  | inr after ↦ elim (cases_lt (start / 4096) (from / 4096)) [
    | inl later ↦ (from, 4096 * (from / 4096), omega arith, omega arith, omega arith, omega arith, omega arith)
    | inr same ↦ (from, start, omega arith, omega arith, omega arith, omega arith, omega arith)
  ]
]

pages_of_bytes : (a b : Range) → HaveBytesInOnePage a b
    → (a.from < a.to) × (b.from < b.to) × (a.from / 4096 ≤ last_page b) × (b.from / 4096 ≤ last_page a)
pages_of_bytes a b (x, y, c, d, e, f, g) = (omega arith, omega arith, omega arith, omega arith)

-- the test and the order of the pages of the ends
pages_of_test : (a b : Range) → ends_share_page a b ≡ true
    → (a.from < a.to) × (b.from < b.to) × (a.from / 4096 ≤ last_page b) × (b.from / 4096 ≤ last_page a)
pages_of_test a b t = (grind (arith, nat_tests), grind (arith, nat_tests), grind (arith, nat_tests), grind (arith, nat_tests))

test_of_pages : (a b : Range) → a.from < a.to → b.from < b.to → a.from / 4096 ≤ last_page b → b.from / 4096 ≤ last_page a
    → ends_share_page a b ≡ true
test_of_pages a b c d e f = grind (arith, nat_tests)

-- a test that compares the ends says that the ranges have bytes in one page
pub ends_share_page-bytes : (a b : Range) (r : Bool) → r ≡ ends_share_page a b → IsTrue r ↔ HaveBytesInOnePage a b
ends_share_page-bytes a b r e = (
  (λ t. let h = pages_of_test a b (sym e ∙ t) in bytes_of_pages a.from a.to b.from b.to h.0 h.1 h.2 h.3),
  (λ h. let p = pages_of_bytes a b h in e ∙ test_of_pages a b p.0 p.1 p.2 p.3),
)
