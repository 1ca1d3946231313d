use Rattle.std.proofs.Common.{nat_eq, is_some, ap, sym, subst, ◌∙◌}
use Rattle.std.specs.List.{IsDistinct}
use Rattle.cc_views.specs.Views.{mapped_blocks}
use Rattle.cc_views.proofs.Orders.{no_place, place_is}
use Rattle.cc_views.proofs.views.Views.place_of.Goals as goal

pub returns-then-is_at : goal.returns-then-is_at
returns-then-is_at c =
    let distinct = subst (λ m. IsDistinct nat_eq (mapped_blocks m)) c.self.view_is c.self.invariant.sound.distinct in
    sym (place_is c.args.self.now.views c.in-Some.view c.args.block distinct (c.is_at.ensures c.if-is_at.true))

pub returns-in-None : goal.returns-in-None
returns-in-None c = sym (no_place c.args.self.now.views c.args.block (sym c.view_of.ensures ∙ ap is_some c.in-None.is))
