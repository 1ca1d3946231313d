-- The span of the bytes that the query names is its range.
use Rattle.std.specs.Prelude.{◌<◌, Some}
use Rattle.std.proofs.Common.{ap, sym, ◌∙◌, subst}
use Rattle.std.proofs.lemmas.Option.{same_Some}
use Rattle.cc_entry.specs.Place.{Range}
use Rattle.cc_model.specs.History.{history}
use Rattle.cc_model.specs.Ranges.{queried_range}
use Rattle.cc_model.specs.Touches.{size_of}
use Rattle.cc_step.proofs.room.span_for.Goals as goal

pub returns : goal.returns
returns c opening past r stands is some =
    let h = history past c.args.book.now.stream in
    let same = ap (queried_range (size_of h)) (sym c.in_ok-at.was ∙ c.extent.ensures) ∙ is in
    c.span_below.ensures opening past stands (subst (λ (x : Range). x.from < x.to) (sym (same_Some _ _ same)) some) ∙ same
