-- By which of the two pages beside it are in a range.
use Rattle.std.proofs.Common.{◌+◌, ◌≤◌, ap, sym, refl, ◌∙◌, arith, get_or}
use Rattle.std.proofs.lemmas.List.{get_or_read, length-set}
use Rattle.cc_images.specs.PageSet.{ends_before, begins_behind, is_in_ranges, neighbours, ranges_with, one_if}
use Rattle.cc_images.specs.declared.page_range.PageRange.{PageRange}
use Rattle.cc_images.proofs.PageRanges.{before-found, before-none, behind-found, behind-none}
use Rattle.cc_images.proofs.RangeSteps.{put-joined, put-behind, put-before, put-alone}
use Rattle.std.specs.List.{position}
use Rattle.cc_images.proofs.page_set.put_in.Goals as goal

pub returns-in-Some-Some-clause-pages : goal.returns-in-Some-Some-clause-pages
returns-in-Some-Some-clause-pages c = λ p.
    let items = c.args.ranges.now.items in
    let range = c.index_mut.result.now in
    let k = before-found c.args.page items c.in-Some-Some.before range (ap (position (ends_before c.args.page)) (sym c.deref.ensures.value) ∙ (sym c.place_before-before.ensures ∙ c.in-Some-Some.is-0)) in
    let l = behind-found c.args.page items c.in-Some-Some.behind range (ap (position (begins_behind c.args.page)) (sym c.deref-2.ensures.value) ∙ (sym c.place_behind-behind.ensures ∙ c.in-Some-Some.is-1)) in
    ap (ranges_with p) c.swap_remove.ensures.items
    ∙ put-joined p c.args.page items c.in-Some-Some.before range _ k.0 c.in-Some-Some.behind c.swap_remove.result l.0 k.1 l.1
    (ap (λ (r : PageRange). r.first) c.index_mut.ensures.value) (ap (λ (r : PageRange). r.last) (get_or_read items c.in-Some-Some.behind c.index.result.now l.0 c.index.ensures range))

pub returns-in-Some-Some-clause-ranges : goal.returns-in-Some-Some-clause-ranges
returns-in-Some-Some-clause-ranges c =
    let items = c.args.ranges.now.items in
    let range = c.index_mut.result.now in
    let k = before-found c.args.page items c.in-Some-Some.before range (ap (position (ends_before c.args.page)) (sym c.deref.ensures.value) ∙ (sym c.place_before-before.ensures ∙ c.in-Some-Some.is-0)) in
    let l = behind-found c.args.page items c.in-Some-Some.behind range (ap (position (begins_behind c.args.page)) (sym c.deref-2.ensures.value) ∙ (sym c.place_behind-behind.ensures ∙ c.in-Some-Some.is-1)) in
    omega (arith, ap one_if k.2, ap one_if l.2, c.swap_remove.ensures.len, c.swap_remove.new.self.ok.0, c.args.ranges.now.ok.0)

pub returns-in-Some-None-clause-pages : goal.returns-in-Some-None-clause-pages
returns-in-Some-None-clause-pages c = λ p.
    let items = c.args.ranges.now.items in
    let range = c.index_mut-in-Some-None.result.now in
    let k = before-found c.args.page items c.in-Some-None.before range (ap (position (ends_before c.args.page)) (sym c.deref.ensures.value) ∙ (sym c.place_before-before.ensures ∙ c.in-Some-None.is-0)) in
    put-behind p c.args.page items c.in-Some-None.before range _ k.0 k.1 (ap (λ (r : PageRange). r.first) c.index_mut-in-Some-None.ensures.value) refl

pub returns-in-Some-None-clause-ranges : goal.returns-in-Some-None-clause-ranges
returns-in-Some-None-clause-ranges c =
    let items = c.args.ranges.now.items in
    let range = c.index_mut-in-Some-None.result.now in
    let k = before-found c.args.page items c.in-Some-None.before range (ap (position (ends_before c.args.page)) (sym c.deref.ensures.value) ∙ (sym c.place_before-before.ensures ∙ c.in-Some-None.is-0)) in
    let l = behind-none c.args.page items c.requires.is_new (ap (position (begins_behind c.args.page)) (sym c.deref-2.ensures.value) ∙ (sym c.place_behind-behind.ensures ∙ c.in-Some-None.is-1)) in
    ap (λ n. n + neighbours (λ p. is_in_ranges p items) c.args.page) (length-set items c.in-Some-None.before _) ∙ omega (arith, ap one_if k.2, ap one_if l)

pub returns-in-None-Some-clause-pages : goal.returns-in-None-Some-clause-pages
returns-in-None-Some-clause-pages c = λ p.
    let items = c.args.ranges.now.items in
    let range = c.index_mut-in-None-Some.result.now in
    let l = behind-found c.args.page items c.in-None-Some.behind range (ap (position (begins_behind c.args.page)) (sym c.deref-2.ensures.value) ∙ (sym c.place_behind-behind.ensures ∙ c.in-None-Some.is-1)) in
    put-before p c.args.page items c.in-None-Some.behind range _ l.0 l.1 refl (ap (λ (r : PageRange). r.last) c.index_mut-in-None-Some.ensures.value)

pub returns-in-None-Some-clause-ranges : goal.returns-in-None-Some-clause-ranges
returns-in-None-Some-clause-ranges c =
    let items = c.args.ranges.now.items in
    let range = c.index_mut-in-None-Some.result.now in
    let k = before-none c.args.page items c.requires.is_new (ap (position (ends_before c.args.page)) (sym c.deref.ensures.value) ∙ (sym c.place_before-before.ensures ∙ c.in-None-Some.is-0)) in
    let l = behind-found c.args.page items c.in-None-Some.behind range (ap (position (begins_behind c.args.page)) (sym c.deref-2.ensures.value) ∙ (sym c.place_behind-behind.ensures ∙ c.in-None-Some.is-1)) in
    ap (λ n. n + neighbours (λ p. is_in_ranges p items) c.args.page) (length-set items c.in-None-Some.behind _) ∙ omega (arith, ap one_if k, ap one_if l.2)

pub returns-in-None-None-clause-pages : goal.returns-in-None-None-clause-pages
returns-in-None-None-clause-pages c = λ p.
    ap (ranges_with p) c.push_reserved.ensures.items
    ∙ put-alone p c.args.page c.args.ranges.now.items _ refl refl

pub returns-in-None-None-clause-ranges : goal.returns-in-None-None-clause-ranges
returns-in-None-None-clause-ranges c =
    let items = c.args.ranges.now.items in
    let k = before-none c.args.page items c.requires.is_new (ap (position (ends_before c.args.page)) (sym c.deref.ensures.value) ∙ (sym c.place_before-before.ensures ∙ c.in-None-None.is-0)) in
    let l = behind-none c.args.page items c.requires.is_new (ap (position (begins_behind c.args.page)) (sym c.deref-2.ensures.value) ∙ (sym c.place_behind-behind.ensures ∙ c.in-None-None.is-1)) in
    omega (arith, ap one_if k, ap one_if l, c.push_reserved.ensures.len, c.push_reserved.new.self.ok.0, c.args.ranges.now.ok.0)

-- a range that was joined or made longer ends where it begins, or behind
pub invariant_of-index_mut : goal.invariant_of-index_mut
invariant_of-index_mut c =
    let items = c.args.ranges.now.items in
    let range = c.index_mut.result.now in
    let k = before-found c.args.page items c.in-Some-Some.before range (ap (position (ends_before c.args.page)) (sym c.deref.ensures.value) ∙ (sym c.place_before-before.ensures ∙ c.in-Some-Some.is-0)) in
    let l = behind-found c.args.page items c.in-Some-Some.behind range (ap (position (begins_behind c.args.page)) (sym c.deref-2.ensures.value) ∙ (sym c.place_behind-behind.ensures ∙ c.in-Some-Some.is-1)) in
    let low : range.first ≤ range.last = range.in_order in
    let same = ap (λ (r : PageRange). r.last) c.index_mut.ensures.value in
    let last = ap (λ (r : PageRange). r.last) (get_or_read items c.in-Some-Some.behind c.index.result.now l.0 c.index.ensures range) in
    let order = (get_or items c.in-Some-Some.behind range).in_order in
    omega (arith, low, same, k.1, l.1, order, last)

pub invariant_of-index_mut-in-Some-None : goal.invariant_of-index_mut-in-Some-None
invariant_of-index_mut-in-Some-None c =
    let items = c.args.ranges.now.items in
    let range = c.index_mut-in-Some-None.result.now in
    let k = before-found c.args.page items c.in-Some-None.before range (ap (position (ends_before c.args.page)) (sym c.deref.ensures.value) ∙ (sym c.place_before-before.ensures ∙ c.in-Some-None.is-0)) in
    let low : range.first ≤ range.last = range.in_order in
    omega (arith, low, ap (λ (r : PageRange). r.last) c.index_mut-in-Some-None.ensures.value, k.1)

pub invariant_of-index_mut-in-None-Some : goal.invariant_of-index_mut-in-None-Some
invariant_of-index_mut-in-None-Some c =
    let items = c.args.ranges.now.items in
    let range = c.index_mut-in-None-Some.result.now in
    let l = behind-found c.args.page items c.in-None-Some.behind range (ap (position (begins_behind c.args.page)) (sym c.deref-2.ensures.value) ∙ (sym c.place_behind-behind.ensures ∙ c.in-None-Some.is-1)) in
    let low : range.first ≤ range.last = range.in_order in
    omega (arith, low, ap (λ (r : PageRange). r.first) c.index_mut-in-None-Some.ensures.value, l.1)
