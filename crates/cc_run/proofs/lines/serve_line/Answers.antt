-- The desk acts as the caller, so the line is served as that caller's pass; what it left is the line's piece.
use Rattle.std.proofs.Common.{refl, ap, subst}
use Rattle.cc_model.specs.Good.{IsGood}
use Rattle.cc_turns.specs.Desk.{standing_of}
use Rattle.cc_run.proofs.Acting.{alone-after, can-serve-line, line-end, ready-after, run-after}
use Rattle.cc_run.proofs.PlacesWent.{both-as}
use Rattle.cc_run.proofs.lines.serve_line.Goals as goal

pub returns-clause-left : goal.returns-clause-left
returns-clause-left g c = λ bounds bindings stand right.
    line-end (standing_of g.D.Told.told g.D.Told.faults g.L.LogFile.told g.L.LogFile.faults c.args.desk.now) _ _ c.args.line.now.caller
    (ap (λ d. standing_of g.D.Told.told g.D.Told.faults g.L.LogFile.told g.L.LogFile.faults d) c.act_as.ensures)
    c.serve_at-answer.ensures.goes_on c.own.ensures c.requires.ready bounds bindings c.args.line.now c.serve_at-answer.result _ _ refl
    c.serve_at-answer.ensures refl stand right

pub serve_at-answer-requires-clause-can : goal.serve_at-answer-requires-clause-can
serve_at-answer-requires-clause-can g c κs within =
    can-serve-line (standing_of g.D.Told.told g.D.Told.faults g.L.LogFile.told g.L.LogFile.faults c.args.desk.now) _ c.args.line.now _
    (ap (λ d. standing_of g.D.Told.told g.D.Told.faults g.L.LogFile.told g.L.LogFile.faults d) c.act_as.ensures)
    c.requires.ready c.requires.servable c.good.ensures c.requires.words

-- the pass and what it has seen are those of the desk that acts as the caller
pub returns-clause-placed : goal.returns-clause-placed
returns-clause-placed g c =
    let w = standing_of g.D.Told.told g.D.Told.faults g.L.LogFile.told g.L.LogFile.faults c.act_as.new.self in
    let acts = ap (λ d. standing_of g.D.Told.told g.D.Told.faults g.L.LogFile.told g.L.LogFile.faults d) c.act_as.ensures in
    both-as w.number c.args.line.now.caller _ _ _ w.seen c.args.desk.now.last.entries _ (ap (λ w. w.number) acts) (ap (λ w. w.seen) acts) c.serve_at-answer.ensures.placed

pub returns-clause-alone : goal.returns-clause-alone
returns-clause-alone g c =
    alone-after (standing_of g.D.Told.told g.D.Told.faults g.L.LogFile.told g.L.LogFile.faults c.args.desk.now) _ _ c.args.line.now.caller
    (ap (λ d. standing_of g.D.Told.told g.D.Told.faults g.L.LogFile.told g.L.LogFile.faults d) c.act_as.ensures)
    c.serve_at-answer.ensures.goes_on c.own.ensures c.requires.ready

pub returns-clause-good : goal.returns-clause-good
returns-clause-good g c =
    subst (λ u. IsGood u c.serve_at-answer.new.turns.last.entries) (ap (λ d. (standing_of g.D.Told.told g.D.Told.faults g.L.LogFile.told g.L.LogFile.faults d).setup) c.act_as.ensures) c.serve_at-answer.ensures.good

pub returns-clause-run : goal.returns-clause-run
returns-clause-run g c =
    run-after (standing_of g.D.Told.told g.D.Told.faults g.L.LogFile.told g.L.LogFile.faults c.args.desk.now) _ _ c.args.line.now.caller
    (ap (λ d. standing_of g.D.Told.told g.D.Told.faults g.L.LogFile.told g.L.LogFile.faults d) c.act_as.ensures)
    c.serve_at-answer.ensures.goes_on c.own.ensures c.requires.ready

pub returns-clause-ready : goal.returns-clause-ready
returns-clause-ready g c =
    ready-after (standing_of g.D.Told.told g.D.Told.faults g.L.LogFile.told g.L.LogFile.faults c.args.desk.now) _ _ c.args.line.now.caller
    (ap (λ d. standing_of g.D.Told.told g.D.Told.faults g.L.LogFile.told g.L.LogFile.faults d) c.act_as.ensures)
    c.serve_at-answer.ensures.goes_on c.own.ensures c.requires.ready
