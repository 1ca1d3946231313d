use Rattle.cc_turns.specs.Desk.{tells_of}
use Rattle.cc_world.proofs.Growth.{grew}
use Rattle.cc_world.proofs.machine.Machine.step.Goals as goal

pub returns-clause-grew : goal.returns-clause-grew
returns-clause-grew g c =
    grew (tells_of g.D.Told.told g.D.Told.faults g.L.LogFile.told g.L.LogFile.faults g.Q.PostRoutine.posted) c.args.event c.args.self.now c.happen.new.self c.happen.result c.happen.ensures
