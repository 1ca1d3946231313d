-- The row of the entry's pass steps; a post has none.
use Rattle.std.proofs.Common.{ap, subst, sym, ◌∙◌}
use Rattle.cc_world.proofs.PassRows.{passes-after, passes-none}
use Rattle.cc_world.specs.Passes.{IsPut, row_after}
use Rattle.cc_world.specs.declared.passes.PassRow.{PassRow}
use Rattle.cc_world.proofs.passes.Passes.follow.Goals as goal

pub put-requires : goal.put-requires
put-requires c = record { room = c.requires.room c.in-Some.pass (sym c.pass_of.ensures ∙ c.in-Some.is) }

pub returns : goal.returns
returns c past place stood =
    passes-after past c.args.self.now.rows.items c.put.new.self.rows.items c.args.entry.now c.in-Some.pass c.args.place (sym c.pass_of.ensures ∙ c.in-Some.is) place
    (subst (λ (r : PassRow). IsPut c.args.self.now.rows.items c.put.new.self.rows.items c.in-Some.pass r)
    (c.after-row.ensures ∙ ap (λ (r : PassRow). row_after c.args.place r c.args.entry.now) c.of.ensures) c.put.ensures) stood

pub returns-in_default : goal.returns-in_default
returns-in_default c past place stood = passes-none past c.args.self.now.rows.items c.args.entry.now (sym c.pass_of.ensures ∙ c.in_default.is) stood
