use Rattle.std.proofs.Common.{◌≡◌, ◌+◌, vec_capacity, vec_len}
use Rattle.cc_turns.specs.Desk.{tells_of}
use Rattle.cc_event_lines.proofs.LineSteps.{LinesSoFar}
use Rattle.cc_event_lines.proofs.lines.step_lines.Given as goal

abbrev pub invariant-loop-line : goal.invariant-loop-line
invariant-loop-line g l = record {
  so_far : LinesSoFar (tells_of g.D.Told.told g.D.Told.faults g.L.LogFile.told g.L.LogFile.faults g.Q.PostRoutine.posted) l.lines l.line-index l.fn.names.named l.names.named l.fn.names.room l.fn.replies.items l.replies.items l.fn.world l.world l.fn.routines l.routines;
  kept : l.names.room ≡ l.fn.names.room;
  counted : vec_len l.replies ≡ vec_len l.fn.replies + l.line-index;
  capacity : vec_capacity l.replies ≡ vec_capacity l.fn.replies;
}
