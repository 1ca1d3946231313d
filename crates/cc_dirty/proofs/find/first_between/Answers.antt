-- By the place of the split: past the last row, at a row that is picked, or at another one.
use Rattle.std.proofs.Common.{◌≡◌, ◌<◌, ◌∙◌, length, refl, sym, arith}
use Rattle.std.proofs.lemmas.Option.{slice_get_read}
use Rattle.cc_dirty.proofs.Rows.{between-at, between-past, between-none}
use Rattle.cc_dirty.proofs.find.first_between.Goals as goal

pub returns-then-place-rows : goal.returns-then-place-rows
returns-then-place-rows c = sym (between-past c.args.rows.now c.args.stream c.args.from c.args.to c.place_of-place.result c.place_of-place.ensures.split (omega arith))

pub returns-then-is_between : goal.returns-then-is_between
returns-then-is_between c =
    let within : c.place_of-place.result < length c.args.rows.now = omega (arith, c.place_of-place.ensures.within) in
    sym (between-at c.args.rows.now c.args.stream c.args.from c.args.to c.place_of-place.result c.place_of-place.ensures.split c.index-rows-place.result
    (slice_get_read c.args.rows.now (length c.args.rows.now) c.place_of-place.result c.index-rows-place.result refl within c.index-rows-place.is)
    (sym c.is_between.ensures ∙ c.if-is_between.true))

pub returns-else-is_between : goal.returns-else-is_between
returns-else-is_between c =
    let within : c.place_of-place.result < length c.args.rows.now = omega (arith, c.place_of-place.ensures.within) in
    sym (between-none c.args.rows.now c.args.stream c.args.from c.args.to c.place_of-place.result c.place_of-place.ensures.split c.index-rows-place.result
    c.requires c.index-rows-place.is within (sym c.is_between.ensures ∙ c.if-is_between.false))
