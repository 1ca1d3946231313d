use Rattle.cc_redo.specs.Stages.{StageIsReached, PagesDone}
use Rattle.cc_redo.proofs.streams.redo_all.Given as goal

abbrev pub invariant-loop-redo : goal.invariant-loop-redo
invariant-loop-redo g l = StageIsReached l.streams l.redo-index (PagesDone g.D.Told.told g.D.Told.faults l.from l.entries) l.fn.disks l.disks
