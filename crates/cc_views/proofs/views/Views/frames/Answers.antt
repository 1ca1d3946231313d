use Rattle.std.proofs.Common.{nat_eq, slice_get, ap, sym, ◌∙◌}
use Rattle.std.specs.Map.{values_of}
use Rattle.indexmap.proofs.MapLemmas.{Missing-position}
use Rattle.cc_views.proofs.Orders.{frames_there}
use Rattle.cc_views.proofs.views.Views.frames.Goals as goal

pub returns-in-Some-clause-frames : goal.returns-in-Some-clause-frames
returns-in-Some-clause-frames c =
    let there = frames_there c.args.self.now.views c.args.block c.in-Some.place (sym c.place_of.ensures ∙ c.in-Some.is) in
    sym c.index.ensures ∙ ap (λ m. slice_get (values_of m.views) c.in-Some.place) c.self.view_is ∙ there

pub returns-in-None-clause-frames : goal.returns-in-None-clause-frames
returns-in-None-clause-frames c = sym (Missing-position (nat_eq c.args.block) c.args.self.now.views (sym c.place_of.ensures ∙ c.in-None.is)).value
