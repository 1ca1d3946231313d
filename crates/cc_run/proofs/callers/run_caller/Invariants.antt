-- A caller has run the lines before this one.
use Rattle.std.proofs.Common.{◌≡◌, take}
use Rattle.std.specs.Prelude.{vec_capacity}
use Rattle.cc_turns.specs.Desk.{tells_of}
use Rattle.cc_run.proofs.CallersRan.{RanSoFar}
use Rattle.cc_run.proofs.callers.run_caller.Given as goal

abbrev pub invariant-loop-line : goal.invariant-loop-line
invariant-loop-line g l =
    let tells = tells_of g.D.Told.told g.D.Told.faults g.L.LogFile.told g.L.LogFile.faults g.Q.PostRoutine.posted in
    record {
      ran : RanSoFar tells l.board l.lines l.fn.caller (take l.line-index l.lines) l.answers.items l.seated l.names;
      me_is : l.me ≡ l.fn.caller.pass.knows.number;
      room : vec_capacity l.answers ≡ vec_capacity l.fn.caller.room;
    }
