-- The lines of each phase are the front of the rest; what was served so far and a phase make what is served so far.
use Rattle.std.proofs.Common.{◌≡◌, suc, ◌+◌, ◌++◌, length, refl, sym, ap, subst, ◌∙◌, arith}
use Rattle.std.proofs.lemmas.List.{length-append, length-take, take-append-drop}
use Rattle.cc_turns.specs.Desk.{standing_of}
use Rattle.cc_lines.specs.Line.{IsServable}
use Rattle.cc_run.specs.Lines.{AllStand, IsCaller}
use Rattle.cc_run.specs.Phases.{PhaseEnds}
use Rattle.cc_run.specs.Aheads.{StepsMade}
use Rattle.cc_run.specs.Ticks.{TicksMade}
use Rattle.cc_run.proofs.Acting.{run-same, run-then}
use Rattle.cc_run.proofs.Lists.{all-take}
use Rattle.cc_run.proofs.PhaseSteps.{bound_there, named_there, none-later, phase-long, so_far-all, so_far-more, so_far-none, so_far-placed, so_far-rest, so_far-right, so_far-room, so_far-serve, so_far-step_room}
use Rattle.cc_run.proofs.PlacesWent.{own-after, places-so}
use Rattle.cc_run.proofs.StepsRan.{none-placed, steps-placed}
use Rattle.cc_run.proofs.phases.serve_phases.Goals as goal

pub loop-phase-init : goal.loop-phase-init
loop-phase-init g c = record {
  run = run-same _;
  ready = c.requires.ready;
  capacity = refl;
  room = omega (arith, c.requires.room, c.args.replies.now.ok.0);
  within = omega (arith);
  ascend = c.requires.ascend;
  keep = refl;
  so_far = so_far-none _ _ _ _ _ _ _ _ _ _ _ c.requires.no_ticks c.requires.no_steps c.requires.none_taken c.requires.words;
  each = refl;
  tick_room = refl;
  own = c.requires.own;
  own_place = c.requires.own_place;
  stepped = none-placed c.args.aheads.place c.args.aheads.answers.items c.args.desk.last.entries c.requires.no_steps;
  step_each = refl;
  step_room = refl;
}

pub serve_phase-requires-clause-servable : goal.serve_phase-requires-clause-servable
serve_phase-requires-clause-servable g c κs within =
    let streams = (standing_of g.D.Told.told g.D.Told.faults g.L.LogFile.told g.L.LogFile.faults c.args.desk).streams in
    rw (c.split_at.ensures.front, c.loop-phase.invariant.run.streams) (all-take (λ line. IsServable streams line.action) c.count_of_phase.result c.loop-phase.rest.now
    (so_far-rest _ _ _ _ _ _ _ _ _ _ _ _ _ _ _ _ c.loop-phase.invariant.so_far (λ line. IsServable streams line.action) c.requires.servable))

pub serve_phase-requires-clause-callers : goal.serve_phase-requires-clause-callers
serve_phase-requires-clause-callers g c κs within =
    rw c.split_at.ensures.front (all-take (λ line. IsCaller line.caller) c.count_of_phase.result c.loop-phase.rest.now
    (so_far-rest _ _ _ _ _ _ _ _ _ _ _ _ _ _ _ _ c.loop-phase.invariant.so_far (λ line. IsCaller line.caller) c.requires.callers))

pub serve_phase-requires-clause-room : goal.serve_phase-requires-clause-room
serve_phase-requires-clause-room g c κs within =
    let room = c.loop-phase.invariant.room in
    let capacity = c.loop-phase.invariant.capacity in
    omega (arith, room, capacity, ap length c.split_at.ensures.front, length-take c.count_of_phase.result c.loop-phase.rest.now, c.count_of_phase.ensures.within, c.loop-phase.replies.ok.0)

pub serve_phase-requires-clause-words : goal.serve_phase-requires-clause-words
serve_phase-requires-clause-words g c κs within =
    let before = c.loop-phase.invariant in
    let rest = c.loop-phase.rest.now in
    let parts : rest ≡ c.split_at.result.0.now ++ c.split_at.result.1.now =
    rw (c.split_at.ensures.front, c.split_at.ensures.back) (sym (take-append-drop c.count_of_phase.result rest)) in
    rw before.run.streams (so_far-serve _ _ _ _ _ _ _ _ _ _ _ _ _ _ _ _ before.so_far _ c.split_at.result.1.now c.requires.words parts before.keep)

pub serve_phase-requires-clause-tick_room : goal.serve_phase-requires-clause-tick_room
serve_phase-requires-clause-tick_room g c κs within =
    let before = c.loop-phase.invariant in
    rw (before.each, before.tick_room) (so_far-room _ _ _ _ _ _ _ _ _ _ _ _ _ _ _ _ before.so_far c.args.phases _ (omega (arith, c.loop-phase-test.true)) c.requires.tick_room)

pub serve_phase-requires-clause-step_room : goal.serve_phase-requires-clause-step_room
serve_phase-requires-clause-step_room g c κs within =
    let before = c.loop-phase.invariant in
    rw (before.step_each, before.step_room) (so_far-step_room _ _ _ _ _ _ _ _ _ _ _ _ _ _ _ _ before.so_far c.args.phases _ (omega (arith, c.loop-phase-test.true)) c.requires.step_room)

pub loop-phase-preserved : goal.loop-phase-preserved
loop-phase-preserved g c =
    let at = standing_of g.D.Told.told g.D.Told.faults g.L.LogFile.told g.L.LogFile.faults in
    let before = c.loop-phase.invariant in
    let rest = c.loop-phase.rest.now in
    let phase = c.loop-phase.phase in
    let now = c.split_at.result.0.now in
    let later = c.split_at.result.1.now in
    let parts : rest ≡ now ++ later = rw (c.split_at.ensures.front, c.split_at.ensures.back) (sym (take-append-drop c.count_of_phase.result rest)) in
    let bounds = bound_there _ _ _ _ _ _ _ _ _ _ _ _ _ _ _ _ before.so_far in
    let named = named_there _ _ _ _ _ _ _ _ _ _ _ _ _ _ _ _ before.so_far in
    let at_desk : AllStand (at c.loop-phase.desk).streams c.loop-phase.desk.last.entries bounds named c.loop-phase.names.items = rw before.run.streams before.so_far.stand in
    let ended = c.serve_phase.ensures.served bounds named at_desk (so_far-right _ _ _ _ _ _ _ _ _ _ _ _ _ _ _ _ before.so_far _ later c.requires.words parts) in
    let each = before.each in
    let one : PhaseEnds (at c.args.desk).setup (at c.args.desk).streams phase c.args.ticks.now.each c.args.aheads.each bounds named now c.loop-phase.replies.items c.serve_phase.new.replies.items c.loop-phase.desk.last.entries c.serve_phase.result.0.last.entries c.serve_phase.new.names.items =
    rw (before.run.setup, before.run.streams, each, before.step_each) at ended in
    let made : TicksMade (at c.args.desk).setup phase c.args.ticks.now.each c.loop-phase.ticks c.serve_phase.new.ticks c.loop-phase.desk.last.entries c.serve_phase.result.0.last.entries =
    rw before.run.setup at (subst (λ n. TicksMade (at c.loop-phase.desk).setup phase n c.loop-phase.ticks c.serve_phase.new.ticks c.loop-phase.desk.last.entries c.serve_phase.result.0.last.entries) each c.serve_phase.ensures.ticked) in
    let steps : StepsMade (at c.args.desk).setup phase c.args.aheads.each c.loop-phase.aheads c.serve_phase.result.1 c.loop-phase.desk.last.entries c.serve_phase.result.0.last.entries =
    rw before.run.setup at (subst (λ n. StepsMade (at c.loop-phase.desk).setup phase n c.loop-phase.aheads c.serve_phase.result.1 c.loop-phase.desk.last.entries c.serve_phase.result.0.last.entries) before.step_each c.serve_phase.ensures.stepped) in
    let room = before.room in
    let next : suc phase ≡ phase + 1 = omega arith in
    record {
      run = run-then _ _ _ before.run c.serve_phase.ensures.run;
      ready = c.serve_phase.ensures.ready;
      capacity = c.serve_phase.ensures.capacity ∙ before.capacity;
      room = omega (arith, phase-long _ _ _ _ _ _ _ _ _ _ one.served, room, ap length parts, length-append now later);
      within = omega (arith, c.loop-phase-test.true);
      ascend = rw (c.split_at.ensures.back, ← next) c.count_of_phase.ensures.later;
      keep = c.serve_phase.ensures.kept_room ∙ before.keep;
      so_far = so_far-more _ _ _ _ phase _ rest _ _ _ _ _ _ _ _ _ before.so_far c.loop-phase.ticks c.serve_phase.new.ticks c.loop-phase.aheads c.serve_phase.result.1 now later _ _ _ refl refl refl parts (rw c.split_at.ensures.front c.count_of_phase.ensures.those) one made steps
          c.requires.words.counted c.serve_phase.ensures.placed;
      each = made.each_is ∙ before.each;
      tick_room = made.room_is ∙ before.tick_room;
      own = own-after c.args.queues.now now one.served.answers c.loop-phase.names.items c.serve_phase.new.names.items c.loop-phase.desk.last.entries c.serve_phase.result.0.last.entries
          (one.stand.counted ∙ sym before.so_far.stand.counted) before.own
          (places-so now c.loop-phase.replies.items c.serve_phase.new.replies.items one.served.answers c.loop-phase.names.items c.serve_phase.new.names.items
          c.loop-phase.desk.last.entries c.serve_phase.result.0.last.entries one.served.grew c.serve_phase.ensures.placed);
      own_place = steps.placed.queue_is ∙ before.own_place;
      stepped = steps-placed (at c.args.desk).setup phase c.args.aheads.each c.args.aheads.place c.loop-phase.aheads c.serve_phase.result.1 c.args.desk.last.entries c.loop-phase.desk.last.entries
          c.serve_phase.result.0.last.entries before.stepped steps;
      step_each = steps.each_is ∙ before.step_each;
      step_room = steps.room_is ∙ before.step_room;
    }

pub returns-clause-served : goal.returns-clause-served
returns-clause-served g c =
    let at_end = c.loop-phase.invariant in
    let within = at_end.within in
    let past_last = c.loop-phase-test.false in
    so_far-all _ _ _ _ c.loop-phase.phase _ c.loop-phase.rest.now _ _ _ _ _ _ _ _ _ at_end.so_far c.args.phases (omega (arith, within, past_last))
    (none-later c.loop-phase.phase c.args.phases c.loop-phase.rest.now (omega (arith, past_last)) at_end.ascend (so_far-rest _ _ _ _ _ _ _ _ _ _ _ _ _ _ _ _ at_end.so_far _ c.requires.within))

pub returns-clause-placed : goal.returns-clause-placed
returns-clause-placed g c =
    let at_end = c.loop-phase.invariant in
    so_far-placed _ _ _ _ c.loop-phase.phase _ c.loop-phase.rest.now _ _ _ _ _ _ _ _ _ at_end.so_far
    (none-later c.loop-phase.phase c.args.phases c.loop-phase.rest.now (omega (arith, c.loop-phase-test.false)) at_end.ascend (so_far-rest _ _ _ _ _ _ _ _ _ _ _ _ _ _ _ _ at_end.so_far _ c.requires.within))

pub returns-clause-stepped : goal.returns-clause-stepped
returns-clause-stepped g c = c.loop-phase.invariant.stepped

pub returns-clause-counted : goal.returns-clause-counted
returns-clause-counted g c = c.loop-phase.invariant.so_far.stand.counted
