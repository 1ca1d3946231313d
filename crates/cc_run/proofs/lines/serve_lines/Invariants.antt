-- The lines so far have answers and pieces, all words stand still, and there is room for the answers of the rest.
use Rattle.std.proofs.Common.{◌≡◌, ◌+◌, ◌++◌, ℕ, List, length, take}
use Rattle.std.specs.Prelude.{vec_capacity}
use Rattle.cc_script.specs.HoldWords.{AreUsedRight}
use Rattle.cc_script.specs.declared.bound.Bound.{Bound}
use Rattle.cc_pieces.specs.Bindings.{Binding}
use Rattle.cc_turns.specs.Desk.{standing_of}
use Rattle.cc_run.specs.Desks.{PassIsReady, IsSameRun}
use Rattle.cc_entry.specs.declared.answer.LineReply.{LineReply}
use Rattle.cc_run.specs.Lines.{AllStand, KeepRoom, LinesEnd}
use Rattle.cc_run.specs.Places.{AreOfQueues}
use Rattle.cc_run.proofs.PlacesWent.{PlacesSo}
use Rattle.cc_run.proofs.lines.serve_lines.Given as goal

abbrev pub invariant-loop-line : goal.invariant-loop-line
invariant-loop-line g l =
    let at = standing_of g.D.Told.told g.D.Told.faults g.L.LogFile.told g.L.LogFile.faults in
    record {
      run : IsSameRun (at l.initial.desk) (at l.desk);
      ready : PassIsReady (at l.desk);
      long : length l.replies.items ≡ length l.initial.replies.items + l.line-index;
      room : vec_capacity l.replies ≡ vec_capacity l.initial.replies;
      counted : length l.names ≡ 16;
      own : AreOfQueues l.queues l.names;
      answers : List LineReply;
      grew : l.replies.items ≡ l.initial.replies.items ++ answers;
      answered : length (take l.line-index l.lines) ≡ length answers;
      placed : PlacesSo (take l.line-index l.lines) answers l.initial.names l.names l.initial.desk.last.entries l.desk.last.entries;
      keep : KeepRoom l.initial.names l.names;
      served : (bounds : ℕ → List Bound) (bindings : ℕ → List Binding) →
          AllStand (at l.initial.desk).streams l.initial.desk.last.entries bounds bindings l.initial.names →
          ((me : ℕ) → AreUsedRight me (bounds me) l.lines) →
          LinesEnd (at l.initial.desk) bounds bindings (take l.line-index l.lines) l.initial.replies.items l.replies.items l.initial.desk.last.entries l.desk.last.entries l.names;
    }
