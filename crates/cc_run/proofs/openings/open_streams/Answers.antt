-- One stream more is the front of the streams opened; the desk acts as pass 0 all the while, so no other pass acts.
use Rattle.std.proofs.Common.{◌≡◌, ◌+◌, ◌++◌, ◌∷◌, [], take, refl, sym, subst, ◌∙◌, arith, ap}
use Rattle.std.proofs.lemmas.List.{take_more, length-take}
use Rattle.cc_pieces.specs.Openings.{OpeningBehind, Opens}
use Rattle.cc_pieces.specs.Restarts.{refused_for}
use Rattle.cc_turns.specs.Desk.{standing_of}
use Rattle.cc_turns.specs.Takes.{HasActed}
use Rattle.cc_run.proofs.Acting.{goes-pass, pass-then}
use Rattle.cc_run.proofs.Opening.{opens-one, stream-more}
use Rattle.cc_run.proofs.Others.{idle-acted}
use Rattle.cc_run.proofs.RowSteps.{longer}
use Rattle.cc_run.proofs.openings.open_streams.Goals as goal

pub loop-stream-preserved : goal.loop-stream-preserved
loop-stream-preserved g c =
    let before = c.loop-stream.invariant in
    let went = c.open_behind-answer.ensures.goes_on in
    let more : take (c.loop-stream.stream-index + 1) c.args.streams.now ≡ take c.loop-stream.stream-index c.args.streams.now ++ c.stream-item.result ∷ [] =
    take_more c.args.streams.now c.loop-stream.stream-index c.stream-item.result c.loop-stream-test.true ∙ ap (λ x. take c.loop-stream.stream-index c.args.streams.now ++ x ∷ []) (sym c.stream-item.is) in
    let rest = ap (λ w. w.in_flight) went.same ∙ before.rest in
    let refused = refused_for c.stream-item.result.log c.args.restarts.now c.args.ended.now in
    let opened : OpeningBehind (standing_of g.D.Told.told g.D.Told.faults g.L.LogFile.told g.L.LogFile.faults c.loop-stream.desk).setup c.loop-stream.number c.stream-item.result refused c.open_behind-answer.result c.loop-stream.desk.last.entries c.open_behind-answer.new.desk.last.entries =
    rw c.refused_for-refused.ensures at c.open_behind-answer.ensures.opened in
    let one = opens-one (standing_of g.D.Told.told g.D.Told.faults g.L.LogFile.told g.L.LogFile.faults c.loop-stream.desk) _ c.loop-stream.number c.stream-item.result refused c.open_behind-answer.result
    went rest refl opened (λ none. c.open_behind-answer.ensures.full (c.refused_for-refused.ensures ∙ none)) in
    record {
      pass = pass-then _ _ _ before.pass (goes-pass _ _ went);
      free = ap (λ w. w.held) went.same ∙ before.free;
      rest = rest;
      number = ap (λ n. n + 1) before.number;
      long = omega (arith, longer _ _ _ c.push_reserved.ensures.items, before.long);
      room = c.push_reserved.ensures.capacity ∙ before.room;
      opened = rw (more, c.push_reserved.ensures.items) (stream-more _ c.args.restarts.now c.args.ended.now 0 c.loop-stream.number (take c.loop-stream.stream-index c.args.streams.now) c.stream-item.result c.open_behind-answer.result _ _ _ _ _
          (omega (arith, before.number, length-take c.loop-stream.stream-index c.args.streams.now, c.loop-stream-test.true)) before.opened
          (subst (λ u. Opens u c.loop-stream.number c.stream-item.result refused c.open_behind-answer.result c.loop-stream.desk.last.entries c.open_behind-answer.new.desk.last.entries) before.pass.run.setup one));
    }

pub returns-clause-alone : goal.returns-clause-alone
returns-clause-alone g c = λ me other.
    let pass = c.loop-stream.invariant.pass in
    let acted : HasActed 0 c.args.desk.now.last.entries c.loop-stream.desk.last.entries = rw (pass.number ∙ c.requires.first, pass.since ∙ c.requires.begins) at c.own.ensures in
    idle-acted me 0 _ _ other acted

pub returns-clause-ready : goal.returns-clause-ready
returns-clause-ready g c = record { free = c.loop-stream.invariant.free; at_rest = c.loop-stream.invariant.rest }
