use Rattle.std.proofs.Common.{◌≡◌, ◌+◌, vec_capacity, vec_len}
use Rattle.cc_turns.specs.Desk.{tells_of}
use Rattle.cc_event_lines.proofs.StreamSteps.{StreamsSoFar}
use Rattle.cc_event_lines.proofs.openings.open_streams.Given as goal

abbrev pub invariant-loop-number : goal.invariant-loop-number
invariant-loop-number g l = record {
  so_far : StreamsSoFar (tells_of g.D.Told.told g.D.Told.faults g.L.LogFile.told g.L.LogFile.faults g.Q.PostRoutine.posted) l.streams l.number l.fn.replies.items l.replies.items l.fn.world l.world;
  counted : vec_len l.replies ≡ vec_len l.fn.replies + l.number;
  capacity : vec_capacity l.replies ≡ vec_capacity l.fn.replies;
}
