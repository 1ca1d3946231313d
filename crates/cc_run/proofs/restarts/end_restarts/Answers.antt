-- One restart more is the front of the restarts ended; the desk acts as pass 0 all the while, so no other pass acts.
use Rattle.std.proofs.Common.{◌≡◌, ◌+◌, ◌++◌, ◌∷◌, [], take, refl, sym, subst, ◌∙◌, arith, ap}
use Rattle.std.specs.List.{AllByRecursion}
use Rattle.std.proofs.lemmas.List.{take_more, take_all}
use Rattle.cc_turns.specs.Desk.{standing_of}
use Rattle.cc_turns.specs.Takes.{HasActed}
use Rattle.cc_restarts.specs.Restarting.{IsOwnRefusal}
use Rattle.cc_restarts.specs.declared.ended.LogRestart.{LogRestart}
use Rattle.cc_program.specs.Restarting.{EndLeft, RestartsEnded}
use Rattle.cc_run.proofs.Acting.{goes-pass, pass-then}
use Rattle.cc_run.proofs.Ending.{end-one, ended-more}
use Rattle.cc_run.proofs.Lists.{all-at}
use Rattle.cc_run.proofs.Others.{idle-acted}
use Rattle.cc_run.proofs.RowSteps.{longer}
use Rattle.cc_run.proofs.restarts.end_restarts.Goals as goal

pub loop-restart-preserved : goal.loop-restart-preserved
loop-restart-preserved g c =
    let before = c.loop-restart.invariant in
    let went = c.end_one-answer.ensures.goes_on in
    let more : take (c.loop-restart.restart-index + 1) c.args.ended.now ≡ take c.loop-restart.restart-index c.args.ended.now ++ c.restart-item.result ∷ [] =
    take_more c.args.ended.now c.loop-restart.restart-index c.restart-item.result c.loop-restart-test.true ∙ ap (λ x. take c.loop-restart.restart-index c.args.ended.now ++ x ∷ []) (sym c.restart-item.is) in
    let rest = ap (λ w. w.in_flight) went.same ∙ before.rest in
    let own : IsOwnRefusal c.restart-item.result.ended = subst (λ (r : LogRestart). IsOwnRefusal r.ended) (sym c.restart-item.is) (all-at (λ (r : LogRestart). IsOwnRefusal r.ended) c.args.ended.now c.loop-restart.restart-index c.restart-item.result c.loop-restart-test.true c.requires.refusals) in
    let one = end-one (standing_of g.D.Told.told g.D.Told.faults g.L.LogFile.told g.L.LogFile.faults c.loop-restart.desk) _ c.restart-item.result c.end_one-answer.result
    went rest refl c.end_one-answer.ensures.ended (c.end_one-answer.ensures.full own) in
    record {
      pass = pass-then _ _ _ before.pass (goes-pass _ _ went);
      free = ap (λ w. w.held) went.same ∙ before.free;
      rest = rest;
      long = omega (arith, longer _ _ _ c.push_reserved.ensures.items, before.long);
      room = c.push_reserved.ensures.capacity ∙ before.room;
      ended = rw (more, c.push_reserved.ensures.items) (ended-more _ (take c.loop-restart.restart-index c.args.ended.now) _ c.restart-item.result _ _ _ _ before.ended
          (subst (λ u. EndLeft u c.restart-item.result (record { line = c.restart-item.result.line; answer = c.end_one-answer.result }) c.loop-restart.desk.last.entries c.end_one-answer.new.desk.last.entries) before.pass.run.setup one));
    }

pub returns-clause-ended : goal.returns-clause-ended
returns-clause-ended g c =
    subst (λ l. RestartsEnded (standing_of g.D.Told.told g.D.Told.faults g.L.LogFile.told g.L.LogFile.faults c.args.desk.now).setup l c.loop-restart.replies.items c.args.desk.now.last.entries c.loop-restart.desk.last.entries)
    (take_all c.loop-restart.restart-index c.args.ended.now c.loop-restart-test.false) c.loop-restart.invariant.ended

pub returns-clause-alone : goal.returns-clause-alone
returns-clause-alone g c = λ me other.
    let pass = c.loop-restart.invariant.pass in
    let acted : HasActed 0 c.args.desk.now.last.entries c.loop-restart.desk.last.entries = rw (pass.number ∙ c.requires.first, pass.since ∙ c.requires.begins) at c.own.ensures in
    idle-acted me 0 _ _ other acted

pub returns-clause-ready : goal.returns-clause-ready
returns-clause-ready g c = record { free = c.loop-restart.invariant.free; at_rest = c.loop-restart.invariant.rest }
