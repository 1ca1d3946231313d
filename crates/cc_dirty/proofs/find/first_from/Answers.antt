-- By the place of the split: past the last row, at a row that is picked, or at another one.
use Rattle.std.proofs.Common.{◌≡◌, ◌<◌, ◌∙◌, length, refl, sym, arith}
use Rattle.std.proofs.lemmas.Option.{slice_get_read}
use Rattle.cc_dirty.proofs.Rows.{from-at, from-past, from-none}
use Rattle.cc_dirty.proofs.find.first_from.Goals as goal

pub returns-then-place-rows : goal.returns-then-place-rows
returns-then-place-rows c = sym (from-past c.args.rows.now c.args.stream c.args.from c.place_of-place.result c.place_of-place.ensures.split (omega arith))

pub returns-then-is_from : goal.returns-then-is_from
returns-then-is_from c =
    let within : c.place_of-place.result < length c.args.rows.now = omega (arith, c.place_of-place.ensures.within) in
    sym (from-at c.args.rows.now c.args.stream c.args.from c.place_of-place.result c.place_of-place.ensures.split c.index-rows-place.result
    (slice_get_read c.args.rows.now (length c.args.rows.now) c.place_of-place.result c.index-rows-place.result refl within c.index-rows-place.is)
    (sym c.is_from.ensures ∙ c.if-is_from.true))

pub returns-else-is_from : goal.returns-else-is_from
returns-else-is_from c =
    let within : c.place_of-place.result < length c.args.rows.now = omega (arith, c.place_of-place.ensures.within) in
    sym (from-none c.args.rows.now c.args.stream c.args.from c.place_of-place.result c.place_of-place.ensures.split c.index-rows-place.result
    c.requires c.index-rows-place.is within (sym c.is_from.ensures ∙ c.if-is_from.false))
