-- By the place of the split: past the last row, at a row of the page, or at the row of a greater one.
use Rattle.std.proofs.Common.{◌≡◌, ◌<◌, ◌∙◌, true, subst, length, refl, sym, arith}
use Rattle.std.proofs.lemmas.Option.{slice_get_read}
use Rattle.cc_dirty.specs.Unwritten.{is_touched}
use Rattle.cc_dirty.specs.declared.row.Row.{Row}
use Rattle.cc_dirty.proofs.Rows.{row-present, row-past, row-absent}
use Rattle.cc_dirty.proofs.Search.{split-at}
use Rattle.cc_dirty.proofs.edit.find.Goals as goal

pub returns-then-place-rows-clause-row : goal.returns-then-place-rows-clause-row
returns-then-place-rows-clause-row c = sym (row-past c.args.rows.now c.args.page c.place_of-place.result (split-at c.args.rows.now c.args.page c.stream-stream.result c.page.result c.place_of-place.result c.stream-stream.ensures c.page.ensures.same c.place_of-place.ensures.split) (omega arith))

pub returns-then-same_page-clause-row : goal.returns-then-same_page-clause-row
returns-then-same_page-clause-row c =
    let within : c.place_of-place.result < length c.args.rows.now = omega (arith, c.place_of-place.ensures.within) in
    sym (row-present c.args.rows.now c.args.page c.place_of-place.result c.index-rows-place.result (split-at c.args.rows.now c.args.page c.stream-stream.result c.page.result c.place_of-place.result c.stream-stream.ensures c.page.ensures.same c.place_of-place.ensures.split)
    (slice_get_read c.args.rows.now (length c.args.rows.now) c.place_of-place.result c.index-rows-place.result refl within c.index-rows-place.is)
    (sym c.same_page.ensures ∙ c.if-same_page.true))

pub returns-then-same_page-clause-at : goal.returns-then-same_page-clause-at
returns-then-same_page-clause-at c =
    let within : c.place_of-place.result < length c.args.rows.now = omega (arith, c.place_of-place.ensures.within) in (
      slice_get_read c.args.rows.now (length c.args.rows.now) c.place_of-place.result c.index-rows-place.result refl within c.index-rows-place.is,
      sym c.same_page.ensures ∙ c.if-same_page.true,
    )

pub returns-else-same_page-clause-row : goal.returns-else-same_page-clause-row
returns-else-same_page-clause-row c =
    let within : c.place_of-place.result < length c.args.rows.now = omega (arith, c.place_of-place.ensures.within) in
    sym (row-absent c.args.rows.now c.args.page c.place_of-place.result c.index-rows-place.result c.requires.ascending (split-at c.args.rows.now c.args.page c.stream-stream.result c.page.result c.place_of-place.result c.stream-stream.ensures c.page.ensures.same c.place_of-place.ensures.split)
    c.index-rows-place.is within (sym c.same_page.ensures ∙ c.if-same_page.false))

pub returns-then-same_page-clause-touched : goal.returns-then-same_page-clause-touched
returns-then-same_page-clause-touched c =
    let within : c.place_of-place.result < length c.args.rows.now = omega (arith, c.place_of-place.ensures.within) in
    subst (λ (r : Row). is_touched r ≡ true) (sym c.index-rows-place.is) (c.requires.touched c.place_of-place.result c.index-rows-place.result within)

pub returns-then-place-rows-clause-split : goal.returns-then-place-rows-clause-split
returns-then-place-rows-clause-split c = split-at c.args.rows.now c.args.page c.stream-stream.result c.page.result c.place_of-place.result c.stream-stream.ensures c.page.ensures.same c.place_of-place.ensures.split

pub returns-then-same_page-clause-split : goal.returns-then-same_page-clause-split
returns-then-same_page-clause-split c = split-at c.args.rows.now c.args.page c.stream-stream.result c.page.result c.place_of-place.result c.stream-stream.ensures c.page.ensures.same c.place_of-place.ensures.split

pub returns-else-same_page-clause-split : goal.returns-else-same_page-clause-split
returns-else-same_page-clause-split c = split-at c.args.rows.now c.args.page c.stream-stream.result c.page.result c.place_of-place.result c.stream-stream.ensures c.page.ensures.same c.place_of-place.ensures.split
