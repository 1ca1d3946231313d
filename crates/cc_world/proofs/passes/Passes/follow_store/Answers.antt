use Rattle.std.proofs.Common.{ap, subst, ◌∙◌}
use Rattle.cc_world.proofs.PassRows.{passes-store}
use Rattle.cc_world.specs.Passes.{IsPut, row_stored}
use Rattle.cc_world.specs.declared.passes.PassRow.{PassRow}
use Rattle.cc_world.proofs.passes.Passes.follow_store.Goals as goal

pub returns : goal.returns
returns c past nth file bytes reply place stood =
    passes-store past c.args.self.now.rows.items c.put.new.self.rows.items c.args.pass nth c.args.page file bytes reply c.args.place place
    (subst (λ (r : PassRow). IsPut c.args.self.now.rows.items c.put.new.self.rows.items c.args.pass r)
    (c.after_store-row.ensures ∙ ap (λ (r : PassRow). row_stored c.args.place r c.args.page) c.of.ensures) c.put.ensures) stood
