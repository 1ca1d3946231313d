use Rattle.std.proofs.Common.{is_some, ap, sym, ◌∙◌}
use Rattle.cc_views.proofs.Orders.{unremoved}
use Rattle.cc_views.proofs.views.Views.remove.Goals as goal

pub returns-in-None-clause-rest : goal.returns-in-None-clause-rest
returns-in-None-clause-rest c = unremoved c.args.self.now c.args.block (sym c.view_of.ensures ∙ ap is_some c.in-None.is)
