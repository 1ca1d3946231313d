use Rattle.std.proofs.Common.{◌≡◌, ◌-◌, nat_eq, position, Some, ap, sym, ◌∙◌}
use Rattle.std.specs.Map.{keys_of}
use Rattle.indexmap.specs.IndexMap.{move_index}
use Rattle.cc_views.specs.Views.{mapped_blocks, views_after_use}
use Rattle.cc_views.proofs.Orders.{put_views, moved, unused}
use Rattle.cc_views.proofs.views.Views.touch.Goals as goal

pub returns-in-Some : goal.returns-in-Some
returns-in-Some c =
    let es = c.self.inside.order.entries in
    let at : position (nat_eq c.args.block) (keys_of es) ≡ Some c.in-Some.place = ap (λ m. position (nat_eq c.args.block) (mapped_blocks m)) c.self.view_is ∙ sym c.place_of.ensures ∙ c.in-Some.is in
    let views = c.move_index.ensures.entries ∙ ap (λ n. move_index es c.in-Some.place (n - 1)) c.len-last.ensures.len ∙ moved es c.args.block c.in-Some.place at in
    ap (put_views (record { views = es; quota = c.self.inside.quota; size = c.self.inside.size })) views ∙ ap (λ m. put_views m (views_after_use m.views c.args.block)) c.self.view_is

pub returns-in-None : goal.returns-in-None
returns-in-None c = unused c.args.self.now c.args.block (sym c.place_of.ensures ∙ c.in-None.is)
