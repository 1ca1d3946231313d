-- Without steps the read-ahead worker is as it was.
use Rattle.cc_turns.specs.Desk.{tells_of}
use Rattle.cc_run.proofs.Working.{stepper-idle}
use Rattle.cc_run.proofs.workers.run_all.Goals as goal

pub returns-then-stepper-eq0-clause-stepped : goal.returns-then-stepper-eq0-clause-stepped
returns-then-stepper-eq0-clause-stepped g c =
    stepper-idle (tells_of g.D.Told.told g.D.Told.faults g.L.LogFile.told g.L.LogFile.faults g.Q.PostRoutine.posted) c.args.board.now c.args.queues.now.ahead c.args.stepper c.requires.may_step c.args.phase c.if-stepper-eq0.true
