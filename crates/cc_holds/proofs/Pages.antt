-- Pages that are added one after another.
use Rattle.std.proofs.Common.{◌≡◌, ℕ, zero, suc, ◌+◌, ◌-◌, ◌≤◌, List, ap, ◌∙◌, sym, arith}
use Rattle.std.specs.List.{range_with_len}
use Rattle.cc_holds.specs.Touched.{with_page, with_pages}

-- the next page of a range goes to what the pages before it left
with_pages-suc : (touched : List ℕ) (first n page : ℕ) → page ≡ first + n
    → with_pages touched (range_with_len first (suc n)) ≡ with_page (with_pages touched (range_with_len first n)) page
with_pages-suc touched first zero page e = ap (with_page touched) (omega arith)
with_pages-suc touched first (suc n) page e = with_pages-suc (with_page touched first) (first + 1) n page (omega arith)

pub with_pages-more : (touched now new : List ℕ) (first page : ℕ) → first ≤ page → now ≡ with_pages touched (range_with_len first (page - first)) → new ≡ with_page now page
    → new ≡ with_pages touched (range_with_len first (page + 1 - first))
with_pages-more touched now new first page le was step =
    let next : page + 1 - first ≡ suc (page - first) = omega arith in
    rw next (step ∙ ap (λ pages. with_page pages page) was ∙ sym (with_pages-suc touched first (page - first) page (omega arith)))
