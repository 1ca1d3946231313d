use Rattle.cc_shim.proofs.Checkpointing.{HasSynced}
use Rattle.cc_shim.proofs.checkpoints.sync_all.Given as goal

abbrev pub invariant-loop-stream : goal.invariant-loop-stream
invariant-loop-stream g l = HasSynced (g.T.Turns.standing l.fn.turns) (g.T.Turns.standing l.turns) l.found l.stream-index
