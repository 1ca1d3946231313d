-- A binary search: the rows below precede the page, and those from `high` on don't.
use Rattle.std.proofs.Common.{◌≡◌, ℕ, ◌+◌, ◌<◌, ◌≤◌, true, false, List, length, get_or, inl, inr, ap, ◌∙◌, sym, subst, arith}
use Rattle.std.proofs.lemmas.Bool.{cases_lt}
use Rattle.std.proofs.lemmas.Bool.Decides.{nat_tests}
use Rattle.std.proofs.lemmas.List.{get_or_default}
use Rattle.cc_entry.specs.Place.{Page}
use Rattle.cc_dirty.specs.Order.{precedes, same_page, RowsAscend, SplitsAt}
use Rattle.cc_dirty.specs.declared.row.Row.{Row}

pub precedes-trans : (a b c : Page) → precedes a b ≡ true → precedes b c ≡ true → precedes a c ≡ true
precedes-trans a b c ab bc = grind (arith, nat_tests)

pub precedes-irrefl : (a b : Page) → same_page a b ≡ true → precedes a b ≡ false
precedes-irrefl a b e = grind (arith, nat_tests)

-- what follows a page that doesn't precede a third one doesn't either
precedes-after : (a b c : Page) → precedes a b ≡ true → precedes a c ≡ false → precedes b c ≡ false
precedes-after a b c ab ac = grind (arith, nat_tests)

-- a row that was read, at any default
pub read-at : (rows : List Row) (k place : ℕ) (r d : Row) → r ≡ get_or rows place r → place < length rows → k ≡ place → get_or rows k d ≡ r
read-at rows k place r d at lt e = ap (λ i. get_or rows i d) e ∙ get_or_default rows place d r lt ∙ sym at

pub record Between (rows : List Row) (page : Page) (low high : ℕ) : Type 0 where
  pub before : (k : ℕ) (d : Row) → k < low → precedes (get_or rows k d).page page ≡ true
  pub after : (k : ℕ) (d : Row) → high ≤ k → k < length rows → precedes (get_or rows k d).page page ≡ false
  pub in_order : low ≤ high
  pub within : high ≤ length rows

pub Between-start : (rows : List Row) (page : Page) → Between rows page 0 (length rows)
Between-start rows page = record { before = λ k d h. absurd (omega arith); after = λ k d h lt. absurd (omega arith); in_order = omega arith; within = omega arith }

pub Between-upper : (rows : List Row) (page : Page) (low high middle : ℕ) (r : Row) → RowsAscend rows → Between rows page low high → low ≤ middle → middle < high
    → r ≡ get_or rows middle r → precedes r.page page ≡ true → Between rows page (middle + 1) high
Between-upper rows page low high middle r up b lo hi at pass = record {
  before = λ k d h. elim (cases_lt k middle) [
    | inl less ↦ precedes-trans (get_or rows k d).page (get_or rows middle d).page page (up k middle d less (omega (arith, b.within))) (passes middle d (omega arith))
    | inr same ↦ passes k d (omega arith)
  ];
  after = b.after;
  in_order = omega arith;
  within = b.within;
}
  where
    passes : (k : ℕ) (d : Row) → k ≡ middle → precedes (get_or rows k d).page page ≡ true
    passes k d e = subst (λ (x : Row). precedes x.page page ≡ true) (sym (read-at rows k middle r d at (omega (arith, b.within)) e)) pass

pub Between-lower : (rows : List Row) (page : Page) (low high middle : ℕ) (r : Row) → RowsAscend rows → Between rows page low high → low ≤ middle → middle < high
    → r ≡ get_or rows middle r → precedes r.page page ≡ false → Between rows page low middle
Between-lower rows page low high middle r up b lo hi at fail = record {
  before = b.before;
  after = λ k d h lt. elim (cases_lt middle k) [
    | inl less ↦ precedes-after (get_or rows middle d).page (get_or rows k d).page page (up middle k d less lt) (fails middle d (omega arith))
    | inr same ↦ fails k d (omega arith)
  ];
  in_order = lo;
  within = omega (arith, b.within);
}
  where
    fails : (k : ℕ) (d : Row) → k ≡ middle → precedes (get_or rows k d).page page ≡ false
    fails k d e = subst (λ (x : Row). precedes x.page page ≡ false) (sym (read-at rows k middle r d at (omega (arith, b.within)) e)) fail

-- a split at a page that has this stream and this number
pub split-at : (rows : List Row) (page : Page) (stream number place : ℕ) → stream ≡ page.stream → number ≡ page.page
    → SplitsAt rows (record { stream = stream; page = number }) place → SplitsAt rows page place
split-at rows page stream number place is_stream is_number split = record { before = λ k d lt. here.before k d lt; after = λ k d le lt. here.after k d le lt }
  where
    here : SplitsAt rows (record { stream = page.stream; page = page.page }) place
    here = subst (λ (n : ℕ). SplitsAt rows (record { stream = page.stream; page = n }) place) is_number
        (subst (λ (s : ℕ). SplitsAt rows (record { stream = s; page = number }) place) is_stream split)
