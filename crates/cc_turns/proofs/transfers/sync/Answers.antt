use Rattle.cc_turns.proofs.DiskSynced.{DiskStands-synced}
use Rattle.cc_turns.proofs.transfers.sync.Goals as goal

pub returns-clause-ended : goal.returns-clause-ended
returns-clause-ended g c first past later s pass stands at_rest quiet =
    rw c.end_of.ensures
    (DiskStands-synced g.D.Told.told g.D.Told.faults first past later s pass c.sync.result c.args.disk.now c.sync.new.self c.sync.ensures.settled c.sync.ensures.err c.sync.ensures.counted stands quiet)
