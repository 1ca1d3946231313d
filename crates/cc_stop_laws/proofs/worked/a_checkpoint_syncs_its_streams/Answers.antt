use Rattle.cc_stop_laws.proofs.WorkedRun.{unsynced-wrong}
use Rattle.cc_stop_laws.proofs.worked.a_checkpoint_syncs_its_streams.Goals as goal

pub returns : goal.returns
returns c = record { wrong = unsynced-wrong }
