-- The seated pass of the lazy writer makes its ticks, and what they left is what it leaves.
use Rattle.std.proofs.Common.{refl}
use Rattle.cc_turns.specs.Desk.{tells_of}
use Rattle.cc_run.proofs.Working.{may-tick, worker-ran}
use Rattle.cc_run.proofs.workers.run_worker.Goals as goal

pub make_ticks-requires-clause-may : goal.make_ticks-requires-clause-may
make_ticks-requires-clause-may g c =
    may-tick (tells_of g.D.Told.told g.D.Told.faults g.L.LogFile.told g.L.LogFile.faults g.Q.PostRoutine.posted) c.args.board.now c.args.worker c.requires.may
    c.new-seated.result c.new-seated.ensures.board c.new-seated.ensures.pass c.new-seated.ensures.free

pub returns : goal.returns
returns g c = record {
  ran = worker-ran (tells_of g.D.Told.told g.D.Told.faults g.L.LogFile.told g.L.LogFile.faults g.Q.PostRoutine.posted) c.args.board.now c.args.worker c.requires.may
      c.new-seated.result c.new-seated.ensures.board c.new-seated.ensures.pass c.new-seated.ensures.free c.args.phase c.make_ticks.new.turns _ c.make_ticks.new.ticks
      c.make_ticks.ensures.goes_on c.into_pass.ensures.pass c.make_ticks.ensures.made _ refl refl;
}
