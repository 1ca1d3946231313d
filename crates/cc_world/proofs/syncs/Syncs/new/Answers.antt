use Rattle.cc_world.proofs.SyncRows.{syncs-fresh}
use Rattle.cc_world.proofs.syncs.Syncs.new.Goals as goal

pub returns : goal.returns
returns c = syncs-fresh _ c.new.ensures.items
