use Rattle.std.proofs.Common.{◌≡◌, ◌+◌, length, take}
use Rattle.std.specs.Prelude.{vec_capacity}
use Rattle.cc_turns.specs.Standing.{nothing}
use Rattle.cc_turns.specs.Desk.{standing_of}
use Rattle.cc_run.specs.Desks.{IsSamePass}
use Rattle.cc_run.specs.Lines.{StreamsOpened}
use Rattle.cc_run.proofs.openings.open_streams.Given as goal

abbrev pub invariant-loop-stream : goal.invariant-loop-stream
invariant-loop-stream g l =
    let at = standing_of g.D.Told.told g.D.Told.faults g.L.LogFile.told g.L.LogFile.faults in
    record {
      pass : IsSamePass (at l.initial.desk) (at l.desk);
      free : l.desk.held ≡ nothing;
      rest : (at l.desk).in_flight ≡ 0;
      number : l.number ≡ l.stream-index;
      long : length l.replies.items ≡ length l.initial.replies.items + l.stream-index;
      room : vec_capacity l.replies ≡ vec_capacity l.initial.replies;
      opened : StreamsOpened (at l.initial.desk).setup l.restarts l.ended 0 (take l.stream-index l.streams) l.initial.replies.items l.replies.items l.initial.desk.last.entries l.desk.last.entries;
    }
