use Rattle.cc_calls.specs.Answers.{CanCall}
use Rattle.cc_turns.specs.Desk.{standing_of}
use Rattle.cc_tests.proofs.deferrals.defer_pages.Given as goal

abbrev pub invariant-loop-before : goal.invariant-loop-before
invariant-loop-before g l = CanCall (standing_of g.D.Told.told g.D.Told.faults g.L.LogFile.told g.L.LogFile.faults l.desk) l.fn.file.stream
