use Rattle.cc_redo.specs.Stages.{StageIsReached, RecordDone}
use Rattle.cc_redo.proofs.streams.settle_all.Given as goal

abbrev pub invariant-loop-redo : goal.invariant-loop-redo
invariant-loop-redo g l = StageIsReached l.streams l.redo-index (RecordDone g.D.Told.told g.D.Told.faults l.entries) l.fn.disks l.disks
