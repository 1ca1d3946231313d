use Rattle.std.proofs.Common.{◌≡◌, ◌+◌, length, take}
use Rattle.std.specs.Prelude.{vec_capacity}
use Rattle.cc_turns.specs.Standing.{nothing}
use Rattle.cc_turns.specs.Desk.{standing_of}
use Rattle.cc_run.specs.Desks.{IsSamePass}
use Rattle.cc_program.specs.Restarting.{RestartsEnded}
use Rattle.cc_run.proofs.restarts.end_restarts.Given as goal

abbrev pub invariant-loop-restart : goal.invariant-loop-restart
invariant-loop-restart g l =
    let at = standing_of g.D.Told.told g.D.Told.faults g.L.LogFile.told g.L.LogFile.faults in
    record {
      pass : IsSamePass (at l.initial.desk) (at l.desk);
      free : l.desk.held ≡ nothing;
      rest : (at l.desk).in_flight ≡ 0;
      long : length l.replies.items ≡ l.restart-index;
      room : vec_capacity l.replies ≡ vec_capacity l.initial.replies;
      ended : RestartsEnded (at l.initial.desk).setup (take l.restart-index l.ended) l.replies.items l.initial.desk.last.entries l.desk.last.entries;
    }
