-- The seated pass of the read-ahead worker makes its steps, and what they left is what it leaves.
use Rattle.std.proofs.Common.{refl}
use Rattle.cc_turns.specs.Desk.{tells_of}
use Rattle.cc_run.proofs.Working.{may-step, stepper-ran}
use Rattle.cc_run.proofs.workers.run_stepper.Goals as goal

pub make_steps-requires-clause-may : goal.make_steps-requires-clause-may
make_steps-requires-clause-may g c =
    may-step (tells_of g.D.Told.told g.D.Told.faults g.L.LogFile.told g.L.LogFile.faults g.Q.PostRoutine.posted) c.args.board.now c.args.queues.now.ahead c.args.stepper c.requires.may
    c.new-seated.result c.new-seated.ensures.board c.new-seated.ensures.pass c.new-seated.ensures.free

pub returns : goal.returns
returns g c = record {
  ran = stepper-ran (tells_of g.D.Told.told g.D.Told.faults g.L.LogFile.told g.L.LogFile.faults g.Q.PostRoutine.posted) c.args.board.now c.args.queues.now.ahead c.args.stepper c.requires.may
      c.new-seated.result c.new-seated.ensures.board c.new-seated.ensures.pass c.new-seated.ensures.free c.args.phase c.make_steps.new.turns _ c.make_steps.new.aheads
      c.make_steps.ensures.goes_on c.into_pass.ensures.pass c.make_steps.ensures.made _ refl refl;
}
