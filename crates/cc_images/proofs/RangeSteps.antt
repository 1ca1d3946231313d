-- What each step of an insert or a removal does to how many ranges have a page.
use Rattle.std.specs.Prelude.{◌≡◌, ℕ, ◌+◌, ◌-◌, ◌<◌, ◌≤◌, ◌==◌, List, [], ◌∷◌, ◌++◌, length}
use Rattle.std.proofs.Common.{ap, sym, ◌∙◌, arith, set, get_or, swap_remove}
use Rattle.std.proofs.lemmas.List.{get_or-set_other, get_or_default, length-set}
use Rattle.std.proofs.lemmas.List.Sums.{sum_by-set, sum_by_push, sum_by-swap_remove}
use Rattle.cc_images.specs.PageSet.{is_in_range, ranges_with, one_if}
use Rattle.cc_images.specs.declared.page_range.PageRange.{PageRange}
use Rattle.cc_images.proofs.PageRanges.{within, within-joined, within-behind, within-before, within-alone, within-split, within-cut_end, within-cut_front, within-gone}

-- how often a range has a page
abbrev of : ℕ → PageRange → ℕ
of p range = one_if (is_in_range p range)

-- by its first and its last page
of-is : (p first last : ℕ) (range : PageRange) → range.first ≡ first → range.last ≡ last → of p range ≡ within p first last
of-is p first last range first_is last_is = ap (λ n. within p n range.last) first_is ∙ ap (λ n. within p first n) last_is

module _ (p page : ℕ) (ranges : List PageRange) (i : ℕ) (d range : PageRange) (inside : i < length ranges) where
  -- the range at the place is set
  changed : ranges_with p (set ranges i range) + of p (get_or ranges i d) ≡ ranges_with p ranges + of p range
  changed = sum_by-set (of p) ranges i range d inside

  pub put-behind : (get_or ranges i d).last + 1 ≡ page → range.first ≡ (get_or ranges i d).first → range.last ≡ page → ranges_with p (set ranges i range) ≡ ranges_with p ranges + one_if (p == page)
  put-behind ends first last =
      let k = of-is p (get_or ranges i d).first page range first last in
      let w = within-behind p page (get_or ranges i d).first (get_or ranges i d).last (get_or ranges i d).in_order ends in
      omega (arith, changed, k, w)

  pub put-before : page + 1 ≡ (get_or ranges i d).first → range.first ≡ page → range.last ≡ (get_or ranges i d).last → ranges_with p (set ranges i range) ≡ ranges_with p ranges + one_if (p == page)
  put-before begins first last =
      let k = of-is p page (get_or ranges i d).last range first last in
      let w = within-before p page (get_or ranges i d).first (get_or ranges i d).last begins (get_or ranges i d).in_order in
      omega (arith, changed, k, w)

  pub take-end : (get_or ranges i d).first < page → page ≡ (get_or ranges i d).last → range.first ≡ (get_or ranges i d).first → range.last ≡ page - 1 → ranges_with p (set ranges i range) + one_if (p == page) ≡ ranges_with p ranges
  take-end above is first last =
      let k = of-is p (get_or ranges i d).first (page - 1) range first last in
      let w = within-cut_end p page (get_or ranges i d).first (get_or ranges i d).last above is in
      omega (arith, changed, k, w)

  pub take-front : (get_or ranges i d).first ≡ page → page < (get_or ranges i d).last → range.first ≡ page + 1 → range.last ≡ (get_or ranges i d).last → ranges_with p (set ranges i range) + one_if (p == page) ≡ ranges_with p ranges
  take-front is below first last =
      let k = of-is p (page + 1) (get_or ranges i d).last range first last in
      let w = within-cut_front p page (get_or ranges i d).first (get_or ranges i d).last is below in
      omega (arith, changed, k, w)

  -- and a range is put at the end
  pub take-split : (more : PageRange) → (get_or ranges i d).first < page → page < (get_or ranges i d).last → range.first ≡ (get_or ranges i d).first → range.last ≡ page - 1 → more.first ≡ page + 1 → more.last ≡ (get_or ranges i d).last → ranges_with p (set ranges i range ++ more ∷ []) + one_if (p == page) ≡ ranges_with p ranges
  take-split more above below first last more_first more_last =
      let k = of-is p (get_or ranges i d).first (page - 1) range first last in
      let l = of-is p (page + 1) (get_or ranges i d).last more more_first more_last in
      let w = within-split p page (get_or ranges i d).first (get_or ranges i d).last above below in
      omega (arith, changed, sum_by_push (of p) (set ranges i range) more, k, l, w)

  -- and the range at another place is removed
  pub put-joined : (j : ℕ) (e : PageRange) → j < length ranges → (get_or ranges i d).last + 1 ≡ page → page + 1 ≡ (get_or ranges j d).first → range.first ≡ (get_or ranges i d).first → range.last ≡ (get_or ranges j d).last → ranges_with p (swap_remove (set ranges i range) j e) ≡ ranges_with p ranges + one_if (p == page)
  put-joined j e within_too ends begins first last =
      let k = of-is p (get_or ranges i d).first (get_or ranges j d).last range first last in
      let w = within-joined p page (get_or ranges i d).first (get_or ranges i d).last (get_or ranges j d).first (get_or ranges j d).last (get_or ranges i d).in_order ends begins (get_or ranges j d).in_order in
      let long : j < length (set ranges i range) = omega (arith, length-set ranges i range) in
      let kept : of p (get_or (set ranges i range) j e) ≡ of p (get_or ranges j d) = ap (of p) (get_or-set_other ranges i j range e apart ∙ get_or_default ranges j e d within_too) in
      omega (arith, changed, sum_by-swap_remove (of p) (set ranges i range) j e long, kept, k, w)
    where
      apart : j ≡ i → ⊥
      apart same =
          let is : (get_or ranges j d).first ≡ (get_or ranges i d).first = ap (λ n. (get_or ranges n d).first) same in
          let order : (get_or ranges i d).first ≤ (get_or ranges i d).last = (get_or ranges i d).in_order in
          omega arith

-- a range of the page alone is put at the end
pub put-alone : (p page : ℕ) (ranges : List PageRange) (range : PageRange) → range.first ≡ page → range.last ≡ page → ranges_with p (ranges ++ range ∷ []) ≡ ranges_with p ranges + one_if (p == page)
put-alone p page ranges range first last =
    omega (arith, sum_by_push (of p) ranges range, of-is p page page range first last, within-alone p page)

-- a range of the page alone is removed
pub take-whole : (p page : ℕ) (ranges : List PageRange) (i : ℕ) (e : PageRange) → i < length ranges → (get_or ranges i e).first ≡ page → page ≡ (get_or ranges i e).last → ranges_with p (swap_remove ranges i e) + one_if (p == page) ≡ ranges_with p ranges
take-whole p page ranges i e inside first last =
    omega (arith, sum_by-swap_remove (of p) ranges i e inside, within-gone p page (get_or ranges i e).first (get_or ranges i e).last first last)
