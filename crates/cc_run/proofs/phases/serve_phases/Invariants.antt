-- What was served of the phases before this one, the words kept, the places at the queues, and room for the answers that are left.
use Rattle.std.proofs.Common.{◌≡◌, ◌+◌, ◌≤◌, length}
use Rattle.std.specs.Prelude.{vec_capacity}
use Rattle.cc_script.specs.Within.{PhasesAscend}
use Rattle.cc_turns.specs.Desk.{standing_of}
use Rattle.cc_run.specs.Desks.{PassIsReady, IsSameRun}
use Rattle.cc_run.specs.Aheads.{step_lines}
use Rattle.cc_run.specs.Lines.{KeepRoom}
use Rattle.cc_run.specs.Places.{AreOfQueues, PlaceWent}
use Rattle.cc_run.proofs.PhaseSteps.{SoFar}
use Rattle.cc_run.proofs.phases.serve_phases.Given as goal

abbrev pub invariant-loop-phase : goal.invariant-loop-phase
invariant-loop-phase g l =
    let at = standing_of g.D.Told.told g.D.Told.faults g.L.LogFile.told g.L.LogFile.faults in
    record {
      run : IsSameRun (at l.fn.desk) (at l.desk);
      ready : PassIsReady (at l.desk);
      capacity : vec_capacity l.replies ≡ vec_capacity l.fn.replies;
      room : length l.replies.items + length l.rest ≤ vec_capacity l.fn.replies;
      within : l.phase ≤ l.fn.phases + 1;
      ascend : PhasesAscend l.phase l.rest;
      keep : KeepRoom l.fn.names.items l.names.items;
      so_far : SoFar (at l.fn.desk).setup (at l.fn.desk).streams l.fn.ticks.each l.fn.aheads.each l.phase l.fn.lines l.rest l.fn.replies.items l.replies.items l.ticks.answers.items l.aheads.answers.items l.aheads.place.taken l.fn.desk.last.entries l.desk.last.entries l.fn.names.items l.names.items;
      each : l.ticks.each ≡ l.fn.ticks.each;
      tick_room : vec_capacity l.ticks.answers ≡ vec_capacity l.fn.ticks.answers;
      own : AreOfQueues l.queues l.names.items;
      own_place : l.aheads.place.queue ≡ l.queues.ahead;
      stepped : PlaceWent 18 (step_lines l.aheads.answers.items) l.fn.aheads.place l.aheads.place l.fn.desk.last.entries l.desk.last.entries;
      step_each : l.aheads.each ≡ l.fn.aheads.each;
      step_room : vec_capacity l.aheads.answers ≡ vec_capacity l.fn.aheads.answers;
    }
