use Rattle.std.proofs.Common.{nat_eq, sym, subst}
use Rattle.std.specs.List.{IsDistinct}
use Rattle.cc_views.specs.Views.{mapped_blocks}
use Rattle.cc_views.proofs.Orders.{place_is}
use Rattle.cc_views.proofs.views.Views.place_in_turn.Goals as goal

pub returns-then-is_at : goal.returns-then-is_at
returns-then-is_at c = λ is.
    let distinct = subst (λ m. IsDistinct nat_eq (mapped_blocks m)) c.self.view_is c.self.invariant.sound.distinct in
    sym (place_is c.args.self.now.views c.in_ok-last.last c.args.block distinct (c.is_at.ensures c.if-is_at.true))

pub returns-then-is_at-2 : goal.returns-then-is_at-2
returns-then-is_at-2 c = λ is.
    let distinct = subst (λ m. IsDistinct nat_eq (mapped_blocks m)) c.self.view_is c.self.invariant.sound.distinct in
    sym (place_is c.args.self.now.views c.in_ok-place.place c.args.block distinct (c.is_at-2.ensures c.if-is_at-2.true))
