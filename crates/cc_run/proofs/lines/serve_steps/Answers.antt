-- The desk acts as the read-ahead worker, and so makes its steps; nobody else placed anything meanwhile.
use Rattle.std.proofs.Common.{refl, ap, subst, ◌∙◌}
use Rattle.cc_model.specs.Good.{IsGood}
use Rattle.cc_turns.specs.Desk.{standing_of}
use Rattle.cc_run.proofs.Acting.{alone-after, ready-after, run-after}
use Rattle.cc_run.proofs.StepsRan.{desk-may-step, desk-stepped}
use Rattle.cc_run.proofs.lines.serve_steps.Goals as goal

pub make_steps-requires-clause-may : goal.make_steps-requires-clause-may
make_steps-requires-clause-may g c =
    desk-may-step (standing_of g.D.Told.told g.D.Told.faults g.L.LogFile.told g.L.LogFile.faults c.args.desk.now) _
    (ap (λ d. standing_of g.D.Told.told g.D.Told.faults g.L.LogFile.told g.L.LogFile.faults d) c.act_as.ensures) refl c.requires.ready

pub returns-clause-made : goal.returns-clause-made
returns-clause-made g c =
    desk-stepped (standing_of g.D.Told.told g.D.Told.faults g.L.LogFile.told g.L.LogFile.faults c.args.desk.now) _ _ _ _ _
    (ap (λ d. standing_of g.D.Told.told g.D.Told.faults g.L.LogFile.told g.L.LogFile.faults d) c.act_as.ensures) c.make_steps.ensures.made

pub returns-clause-alone : goal.returns-clause-alone
returns-clause-alone g c =
    alone-after (standing_of g.D.Told.told g.D.Told.faults g.L.LogFile.told g.L.LogFile.faults c.args.desk.now) _ _ _
    (ap (λ d. standing_of g.D.Told.told g.D.Told.faults g.L.LogFile.told g.L.LogFile.faults d) c.act_as.ensures)
    c.make_steps.ensures.goes_on c.own.ensures c.requires.ready

pub returns-clause-good : goal.returns-clause-good
returns-clause-good g c =
    subst (λ u. IsGood u c.make_steps.new.turns.last.entries)
    (ap (λ w. w.setup) c.make_steps.ensures.goes_on.same ∙ ap (λ d. (standing_of g.D.Told.told g.D.Told.faults g.L.LogFile.told g.L.LogFile.faults d).setup) c.act_as.ensures) c.good.ensures

pub returns-clause-run : goal.returns-clause-run
returns-clause-run g c =
    run-after (standing_of g.D.Told.told g.D.Told.faults g.L.LogFile.told g.L.LogFile.faults c.args.desk.now) _ _ _
    (ap (λ d. standing_of g.D.Told.told g.D.Told.faults g.L.LogFile.told g.L.LogFile.faults d) c.act_as.ensures)
    c.make_steps.ensures.goes_on c.own.ensures c.requires.ready

pub returns-clause-ready : goal.returns-clause-ready
returns-clause-ready g c =
    ready-after (standing_of g.D.Told.told g.D.Told.faults g.L.LogFile.told g.L.LogFile.faults c.args.desk.now) _ _ _
    (ap (λ d. standing_of g.D.Told.told g.D.Told.faults g.L.LogFile.told g.L.LogFile.faults d) c.act_as.ensures)
    c.make_steps.ensures.goes_on c.own.ensures c.requires.ready
