-- Without ticks the lazy writer is as it was.
use Rattle.cc_turns.specs.Desk.{tells_of}
use Rattle.cc_run.proofs.Working.{worker-idle}
use Rattle.cc_run.proofs.workers.run_ticking.Goals as goal

pub returns-then-worker-eq0-clause-worked : goal.returns-then-worker-eq0-clause-worked
returns-then-worker-eq0-clause-worked g c =
    worker-idle (tells_of g.D.Told.told g.D.Told.faults g.L.LogFile.told g.L.LogFile.faults g.Q.PostRoutine.posted) c.args.board.now c.args.worker c.requires.may_work c.args.phase c.if-worker-eq0.true
