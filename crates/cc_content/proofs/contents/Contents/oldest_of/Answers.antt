use Rattle.std.proofs.Common.{ap, sym, ◌∙◌}
use Rattle.cc_views.specs.Views.{first_not_in}
use Rattle.cc_content.proofs.Kept.{no_map}
use Rattle.cc_content.proofs.Orders.{order_of_use-unmapped}
use Rattle.cc_content.specs.Contents.{Contents}
use Rattle.cc_content.proofs.contents.Contents.oldest_of.Goals as goal

pub returns-in-None : goal.returns-in-None
returns-in-None c =
    λ opening h stands. sym (ap (first_not_in c.args.kept.now) (order_of_use-unmapped h (no_map opening h c.args.self.now stands (sym (ap (λ (s : Contents). s.pages) c.self.view_is) ∙ c.in-None.is))))
