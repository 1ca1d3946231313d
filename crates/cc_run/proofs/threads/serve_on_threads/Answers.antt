-- What the callers and the two workers left beside one another is the phase; behind the joins no pass is out, so the board
-- closes.
use Rattle.std.proofs.Common.{◌∙◌, arith, ap, length, refl}
use Rattle.std.proofs.lemmas.List.{length-reverse}
use Rattle.cc_run.proofs.OnBoard.{all-own, are-rows, back-ready, back-run, first-here, first-joined, first-split, first-then, keep-room, may-all-run, may-join, may-step-on, may-work, none-out, one-more, phase-on-board, places-on-board, ready-now, same-run, second-split, steps-on-board, ticks-on-board, two-more}
use Rattle.cc_run.proofs.threads.serve_on_threads.Goals as goal

pub split_all-callers-requires-clause-names : goal.split_all-callers-requires-clause-names
split_all-callers-requires-clause-names g c =
    ap length c.reverse.ensures.items ∙ (length-reverse c.args.names.now.items ∙ c.requires.words.stand.counted)

pub split_worker-worker-requires-clause-here : goal.split_worker-worker-requires-clause-here
split_worker-worker-requires-clause-here g c =
    first-split g.D.Told.told g.D.Told.faults g.L.LogFile.told g.L.LogFile.faults g.Q.PostRoutine.posted c.args.desk _ _ c.requires.ready c.in-Ok-new.ensures.opened c.args.lines.now c.args.names.now.items _ c.reverse.ensures.items c.requires.words.stand.counted _ _ _ c.split_all-callers.ensures.split

pub split_worker-worker-requires-clause-more : goal.split_worker-worker-requires-clause-more
split_worker-worker-requires-clause-more g c =
    one-more g.D.Told.told g.D.Told.faults g.L.LogFile.told g.L.LogFile.faults g.Q.PostRoutine.posted c.args.desk _ _ c.requires.ready c.in-Ok-new.ensures.opened c.args.lines.now c.args.names.now.items _ c.reverse.ensures.items c.requires.words.stand.counted _ _ _ c.split_all-callers.ensures.split

pub split_stepper-stepper-requires-clause-here : goal.split_stepper-stepper-requires-clause-here
split_stepper-stepper-requires-clause-here g c =
    second-split g.D.Told.told g.D.Told.faults g.L.LogFile.told g.L.LogFile.faults g.Q.PostRoutine.posted c.args.desk _ _ c.requires.ready c.in-Ok-new.ensures.opened c.args.lines.now c.args.names.now.items _ c.reverse.ensures.items c.requires.words.stand.counted _ _ _ c.split_all-callers.ensures.split c.args.phase c.args.ticks.now _ _ c.split_worker-worker.ensures.split c.split_worker-worker.ensures.ticks

pub split_stepper-stepper-requires-clause-more : goal.split_stepper-stepper-requires-clause-more
split_stepper-stepper-requires-clause-more g c =
    two-more g.D.Told.told g.D.Told.faults g.L.LogFile.told g.L.LogFile.faults g.Q.PostRoutine.posted c.args.desk _ _ c.requires.ready c.in-Ok-new.ensures.opened c.args.lines.now c.args.names.now.items _ c.reverse.ensures.items c.requires.words.stand.counted _ _ _ c.split_all-callers.ensures.split c.args.phase c.args.ticks.now _ _ c.split_worker-worker.ensures.split c.split_worker-worker.ensures.ticks

pub run_all-ended-requires-clause-own : goal.run_all-ended-requires-clause-own
run_all-ended-requires-clause-own g c κs within =
    all-own g.D.Told.told g.D.Told.faults g.L.LogFile.told g.L.LogFile.faults g.Q.PostRoutine.posted c.args.desk _ _ c.requires.ready c.in-Ok-new.ensures.opened c.args.lines.now c.args.names.now.items _ c.reverse.ensures.items c.requires.words.stand.counted _ _ _ c.split_all-callers.ensures.split c.args.queues.now c.requires.own

pub run_all-ended-requires-clause-may_step : goal.run_all-ended-requires-clause-may_step
run_all-ended-requires-clause-may_step g c κs within =
    may-step-on g.D.Told.told g.D.Told.faults g.L.LogFile.told g.L.LogFile.faults g.Q.PostRoutine.posted c.args.desk _ _ c.requires.ready c.in-Ok-new.ensures.opened c.args.lines.now c.args.names.now.items _ c.reverse.ensures.items c.requires.words.stand.counted _ _ _ c.split_all-callers.ensures.split c.args.phase c.args.ticks.now _ _ c.split_worker-worker.ensures.split c.split_worker-worker.ensures.ticks c.args.aheads _ _ c.split_stepper-stepper.ensures.split c.split_stepper-stepper.ensures.aheads c.args.queues.now.ahead c.requires.own_place c.requires.step_room

pub run_all-ended-requires-clause-may : goal.run_all-ended-requires-clause-may
run_all-ended-requires-clause-may g c κs within =
    may-all-run g.D.Told.told g.D.Told.faults g.L.LogFile.told g.L.LogFile.faults g.Q.PostRoutine.posted c.args.desk _ _ c.requires.ready c.in-Ok-new.ensures.opened c.args.lines.now c.args.names.now.items _ c.reverse.ensures.items c.requires.words.stand.counted _ _ _ c.split_all-callers.ensures.split c.in-Ok.ensures.rooms c.requires.servable c.good.ensures c.requires.words

pub run_all-ended-requires-clause-may_work : goal.run_all-ended-requires-clause-may_work
run_all-ended-requires-clause-may_work g c κs within =
    may-work g.D.Told.told g.D.Told.faults g.L.LogFile.told g.L.LogFile.faults g.Q.PostRoutine.posted c.args.desk _ _ c.requires.ready c.in-Ok-new.ensures.opened c.args.lines.now c.args.names.now.items _ c.reverse.ensures.items c.requires.words.stand.counted _ _ _ c.split_all-callers.ensures.split c.args.phase c.args.ticks.now _ _ c.split_worker-worker.ensures.split c.split_worker-worker.ensures.ticks c.requires.tick_room

pub join_all-rows-requires-clause-may : goal.join_all-rows-requires-clause-may
join_all-rows-requires-clause-may g c =
    may-join g.D.Told.told g.D.Told.faults g.L.LogFile.told g.L.LogFile.faults g.Q.PostRoutine.posted c.args.desk _ _ c.requires.ready c.in-Ok-new.ensures.opened c.args.lines.now c.args.names.now.items _ c.reverse.ensures.items c.requires.words.stand.counted _ _ _ c.split_all-callers.ensures.split c.args.phase c.args.ticks.now _ _ c.split_worker-worker.ensures.split c.split_worker-worker.ensures.ticks c.args.aheads _ _ c.split_stepper-stepper.ensures.split c.split_stepper-stepper.ensures.aheads _ c.run_all-ended.ensures.ran _ c.run_all-ended.ensures.worked _ c.run_all-ended.ensures.stepped

pub join_all-rows-requires-clause-name_room : goal.join_all-rows-requires-clause-name_room
join_all-rows-requires-clause-name_room g c = record {
  empty = c.split_all-callers.ensures.emptied.0;
  room = omega (arith, c.split_all-callers.ensures.emptied.1, c.reverse.ensures.capacity, c.args.names.now.ok.0, c.requires.words.stand.counted);
}

pub join_worker-requires-clause-here : goal.join_worker-requires-clause-here
join_worker-requires-clause-here g c =
    first-joined g.D.Told.told g.D.Told.faults g.L.LogFile.told g.L.LogFile.faults g.Q.PostRoutine.posted c.args.desk _ _ c.requires.ready c.in-Ok-new.ensures.opened c.args.lines.now c.args.names.now.items _ c.reverse.ensures.items c.requires.words.stand.counted _ _ _ c.split_all-callers.ensures.split c.args.phase c.args.ticks.now _ _ c.split_worker-worker.ensures.split c.split_worker-worker.ensures.ticks c.args.aheads _ _ c.split_stepper-stepper.ensures.split c.split_stepper-stepper.ensures.aheads _ c.run_all-ended.ensures.ran _ c.run_all-ended.ensures.worked _ c.run_all-ended.ensures.stepped _ _ _ c.join_all-rows.ensures.joined

pub join_worker-requires-clause-worker_here : goal.join_worker-requires-clause-worker_here
join_worker-requires-clause-worker_here g c = c.run_all-ended.ensures.worked.here

pub join_stepper-aheads-requires-clause-here : goal.join_stepper-aheads-requires-clause-here
join_stepper-aheads-requires-clause-here g c =
    first-then g.D.Told.told g.D.Told.faults g.L.LogFile.told g.L.LogFile.faults g.Q.PostRoutine.posted c.args.desk _ _ c.requires.ready c.in-Ok-new.ensures.opened c.args.lines.now c.args.names.now.items _ c.reverse.ensures.items c.requires.words.stand.counted _ _ _ c.split_all-callers.ensures.split c.args.phase c.args.ticks.now _ _ c.split_worker-worker.ensures.split c.split_worker-worker.ensures.ticks c.args.aheads _ _ c.split_stepper-stepper.ensures.split c.split_stepper-stepper.ensures.aheads _ c.run_all-ended.ensures.ran _ c.run_all-ended.ensures.worked _ c.run_all-ended.ensures.stepped _ _ _ c.join_all-rows.ensures.joined _ c.join_worker.ensures.joined

pub join_stepper-aheads-requires-clause-stepper_here : goal.join_stepper-aheads-requires-clause-stepper_here
join_stepper-aheads-requires-clause-stepper_here g c = c.run_all-ended.ensures.stepped.here

pub close-requires : goal.close-requires
close-requires g c = record {
  here = first-here g.D.Told.told g.D.Told.faults g.L.LogFile.told g.L.LogFile.faults g.Q.PostRoutine.posted c.args.desk _ _ c.requires.ready c.in-Ok-new.ensures.opened c.args.lines.now c.args.names.now.items _ c.reverse.ensures.items c.requires.words.stand.counted _ _ _ c.split_all-callers.ensures.split c.args.phase c.args.ticks.now _ _ c.split_worker-worker.ensures.split c.split_worker-worker.ensures.ticks c.args.aheads _ _ c.split_stepper-stepper.ensures.split c.split_stepper-stepper.ensures.aheads _ c.run_all-ended.ensures.ran _ c.run_all-ended.ensures.worked _ c.run_all-ended.ensures.stepped _ _ _ c.join_all-rows.ensures.joined _ c.join_worker.ensures.joined _ c.join_stepper-aheads.ensures.joined;
}

pub merge-requires-clause-rows : goal.merge-requires-clause-rows
merge-requires-clause-rows g c =
    are-rows g.D.Told.told g.D.Told.faults g.L.LogFile.told g.L.LogFile.faults g.Q.PostRoutine.posted c.args.desk _ _ c.requires.ready c.in-Ok-new.ensures.opened c.args.lines.now c.args.names.now.items _ c.reverse.ensures.items c.requires.words.stand.counted _ _ _ c.split_all-callers.ensures.split c.args.phase c.args.ticks.now _ _ c.split_worker-worker.ensures.split c.split_worker-worker.ensures.ticks c.args.aheads _ _ c.split_stepper-stepper.ensures.split c.split_stepper-stepper.ensures.aheads _ c.run_all-ended.ensures.ran _ c.run_all-ended.ensures.worked _ c.run_all-ended.ensures.stepped _ _ _ c.join_all-rows.ensures.joined

pub unreachable-requires : goal.unreachable-requires
unreachable-requires g c =
    none-out g.D.Told.told g.D.Told.faults g.L.LogFile.told g.L.LogFile.faults g.Q.PostRoutine.posted c.args.desk _ _ c.requires.ready c.in-Ok-new.ensures.opened c.args.lines.now c.args.names.now.items _ c.reverse.ensures.items c.requires.words.stand.counted _ _ _ c.split_all-callers.ensures.split c.args.phase c.args.ticks.now _ _ c.split_worker-worker.ensures.split c.split_worker-worker.ensures.ticks c.args.aheads _ _ c.split_stepper-stepper.ensures.split c.split_stepper-stepper.ensures.aheads _ c.run_all-ended.ensures.ran _ c.run_all-ended.ensures.worked _ c.run_all-ended.ensures.stepped _ _ _ c.join_all-rows.ensures.joined _ c.join_worker.ensures.joined _ c.join_stepper-aheads.ensures.joined (c.in-Err-close.ensures.refused.0 refl)

pub returns-clause-served : goal.returns-clause-served
returns-clause-served g c = λ bounds bindings stand right.
    phase-on-board g.D.Told.told g.D.Told.faults g.L.LogFile.told g.L.LogFile.faults g.Q.PostRoutine.posted c.args.desk _ _ c.requires.ready c.in-Ok-new.ensures.opened c.args.lines.now c.args.names.now.items _ c.reverse.ensures.items c.requires.words.stand.counted _ _ _ c.split_all-callers.ensures.split c.args.phase c.args.ticks.now _ _ c.split_worker-worker.ensures.split c.split_worker-worker.ensures.ticks c.args.aheads _ _ c.split_stepper-stepper.ensures.split c.split_stepper-stepper.ensures.aheads _ c.run_all-ended.ensures.ran _ c.run_all-ended.ensures.worked _ c.run_all-ended.ensures.stepped _ _ _ c.join_all-rows.ensures.joined _ c.join_worker.ensures.joined _ c.join_stepper-aheads.ensures.joined _ c.in-Ok-close.ensures.closed _ c.reverse-2.ensures.items c.good-in-Ok-close.ensures _ _ bounds bindings c.requires.callers c.requires.those c.merge.ensures.merged stand right c.args.ticks.now.each c.args.aheads.each c.requires.beside

pub returns-clause-ticked : goal.returns-clause-ticked
returns-clause-ticked g c =
    ticks-on-board g.D.Told.told g.D.Told.faults g.L.LogFile.told g.L.LogFile.faults g.Q.PostRoutine.posted c.args.desk _ _ c.requires.ready c.in-Ok-new.ensures.opened c.args.lines.now c.args.names.now.items _ c.reverse.ensures.items c.requires.words.stand.counted _ _ _ c.split_all-callers.ensures.split c.args.phase c.args.ticks.now _ _ c.split_worker-worker.ensures.split c.split_worker-worker.ensures.ticks c.args.aheads _ _ c.split_stepper-stepper.ensures.split c.split_stepper-stepper.ensures.aheads _ c.run_all-ended.ensures.ran _ c.run_all-ended.ensures.worked _ c.run_all-ended.ensures.stepped _ _ _ c.join_all-rows.ensures.joined _ c.join_worker.ensures.joined _ c.join_stepper-aheads.ensures.joined _ c.in-Ok-close.ensures.closed _ c.join_worker.ensures.ticks

pub returns-clause-stepped : goal.returns-clause-stepped
returns-clause-stepped g c =
    steps-on-board g.D.Told.told g.D.Told.faults g.L.LogFile.told g.L.LogFile.faults g.Q.PostRoutine.posted c.args.desk _ _ c.requires.ready c.in-Ok-new.ensures.opened c.args.lines.now c.args.names.now.items _ c.reverse.ensures.items c.requires.words.stand.counted _ _ _ c.split_all-callers.ensures.split c.args.phase c.args.ticks.now _ _ c.split_worker-worker.ensures.split c.split_worker-worker.ensures.ticks c.args.aheads _ _ c.split_stepper-stepper.ensures.split c.split_stepper-stepper.ensures.aheads _ c.run_all-ended.ensures.ran _ c.run_all-ended.ensures.worked _ c.run_all-ended.ensures.stepped _ _ _ c.join_all-rows.ensures.joined _ c.join_worker.ensures.joined _ c.join_stepper-aheads.ensures.joined _ c.in-Ok-close.ensures.closed _ c.join_stepper-aheads.ensures.aheads

pub returns-clause-placed : goal.returns-clause-placed
returns-clause-placed g c =
    places-on-board g.D.Told.told g.D.Told.faults g.L.LogFile.told g.L.LogFile.faults g.Q.PostRoutine.posted c.args.desk _ _ c.requires.ready c.in-Ok-new.ensures.opened c.args.lines.now c.args.names.now.items _ c.reverse.ensures.items c.requires.words.stand.counted _ _ _ c.split_all-callers.ensures.split c.args.phase c.args.ticks.now _ _ c.split_worker-worker.ensures.split c.split_worker-worker.ensures.ticks c.args.aheads _ _ c.split_stepper-stepper.ensures.split c.split_stepper-stepper.ensures.aheads _ c.run_all-ended.ensures.ran _ c.run_all-ended.ensures.worked _ c.run_all-ended.ensures.stepped _ _ _ c.join_all-rows.ensures.joined _ c.join_worker.ensures.joined _ c.join_stepper-aheads.ensures.joined _ c.in-Ok-close.ensures.closed _ c.reverse-2.ensures.items _ _ c.requires.those c.merge.ensures.merged

pub returns-clause-kept_room : goal.returns-clause-kept_room
returns-clause-kept_room g c =
    keep-room g.D.Told.told g.D.Told.faults g.L.LogFile.told g.L.LogFile.faults g.Q.PostRoutine.posted c.args.desk _ _ c.requires.ready c.in-Ok-new.ensures.opened c.args.lines.now c.args.names.now.items _ c.reverse.ensures.items c.requires.words.stand.counted _ _ _ c.split_all-callers.ensures.split c.args.phase c.args.ticks.now _ _ c.split_worker-worker.ensures.split c.split_worker-worker.ensures.ticks c.args.aheads _ _ c.split_stepper-stepper.ensures.split c.split_stepper-stepper.ensures.aheads _ c.run_all-ended.ensures.ran _ c.run_all-ended.ensures.worked _ c.run_all-ended.ensures.stepped _ _ _ c.join_all-rows.ensures.joined _ c.reverse-2.ensures.items

pub returns-clause-run : goal.returns-clause-run
returns-clause-run g c =
    same-run g.D.Told.told g.D.Told.faults g.L.LogFile.told g.L.LogFile.faults g.Q.PostRoutine.posted c.args.desk _ _ c.requires.ready c.in-Ok-new.ensures.opened c.args.lines.now c.args.names.now.items _ c.reverse.ensures.items c.requires.words.stand.counted _ _ _ c.split_all-callers.ensures.split c.args.phase c.args.ticks.now _ _ c.split_worker-worker.ensures.split c.split_worker-worker.ensures.ticks c.args.aheads _ _ c.split_stepper-stepper.ensures.split c.split_stepper-stepper.ensures.aheads _ c.run_all-ended.ensures.ran _ c.run_all-ended.ensures.worked _ c.run_all-ended.ensures.stepped _ _ _ c.join_all-rows.ensures.joined _ c.join_worker.ensures.joined _ c.join_stepper-aheads.ensures.joined _ c.in-Ok-close.ensures.closed

pub returns-clause-ready : goal.returns-clause-ready
returns-clause-ready g c =
    ready-now g.D.Told.told g.D.Told.faults g.L.LogFile.told g.L.LogFile.faults g.Q.PostRoutine.posted c.args.desk _ _ c.requires.ready c.in-Ok-new.ensures.opened c.args.lines.now c.args.names.now.items _ c.reverse.ensures.items c.requires.words.stand.counted _ _ _ c.split_all-callers.ensures.split c.args.phase c.args.ticks.now _ _ c.split_worker-worker.ensures.split c.split_worker-worker.ensures.ticks c.args.aheads _ _ c.split_stepper-stepper.ensures.split c.split_stepper-stepper.ensures.aheads _ c.run_all-ended.ensures.ran _ c.run_all-ended.ensures.worked _ c.run_all-ended.ensures.stepped _ _ _ c.join_all-rows.ensures.joined _ c.join_worker.ensures.joined _ c.join_stepper-aheads.ensures.joined _ c.in-Ok-close.ensures.closed

pub returns-in-Err-new-clause-run_kept : goal.returns-in-Err-new-clause-run_kept
returns-in-Err-new-clause-run_kept g c =
    back-run g.D.Told.told g.D.Told.faults g.L.LogFile.told g.L.LogFile.faults c.args.desk c.in-Err-new.desk c.in-Err-new.ensures.err.0

pub returns-in-Err-new-clause-ready_still : goal.returns-in-Err-new-clause-ready_still
returns-in-Err-new-clause-ready_still g c =
    back-ready g.D.Told.told g.D.Told.faults g.L.LogFile.told g.L.LogFile.faults c.args.desk c.in-Err-new.desk c.in-Err-new.ensures.err.0 c.requires.ready
