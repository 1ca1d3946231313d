-- The frames at the position of the block may change in place, and the order keeps its index; another block has none.
use Rattle.std.proofs.Common.{refl, sym, ◌∙◌, nat_eq}
use Rattle.std.specs.Option.{ghost_name_of}
use borrow.Follows.Closed.{read_of}
use Rattle.indexmap.proofs.MapLemmas.{Found-position, Missing-position}
use Rattle.cc_views.specs.Views.{ViewFrames, MappedViews}
use Rattle.cc_views.proofs.Orders.{put_views, IsIndexed-set, set_value-at}
use Rattle.cc_views.proofs.views.Views.frames_mut.Goals as goal

pub invariant_of-self-lent : goal.invariant_of-self-lent
invariant_of-self-lent c = λ _. (λ w. IsIndexed-set c.self.inside.order.entries c.self.inside.quota c.self.inside.size c.self.inside.index c.in-Some.place w c.self.invariant, c.self.invariant)

pub returns-in-Some : goal.returns-in-Some
returns-in-Some c =
    let es = c.self.inside.order.entries in
    let m : MappedViews = record { views = es; quota = c.self.inside.quota; size = c.self.inside.size } in
    let at = sym c.place_of.ensures ∙ c.in-Some.is in
    rw (← c.self.view_is) (
      λ j. read_of (ghost_name_of c.get_index_mut.result) (λ (w : ViewFrames). put_views m (set_value-at es c.args.block c.in-Some.place w at j)) m,
      record { writes_back = tt; frames = c.get_index_mut.ensures.value ∙ sym (Found-position (nat_eq c.args.block) es c.in-Some.place at).value },
    )

pub returns-in-None : goal.returns-in-None
returns-in-None c = rw (← c.self.view_is) (refl, record { writes_back = tt; frames = sym (Missing-position (nat_eq c.args.block) c.self.inside.order.entries (sym c.place_of.ensures ∙ c.in-None.is)).value })
