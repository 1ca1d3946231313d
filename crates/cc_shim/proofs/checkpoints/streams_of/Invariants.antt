use Rattle.cc_shim.proofs.Checkpointing.{HasAsked}
use Rattle.cc_shim.proofs.checkpoints.streams_of.Given as goal

abbrev pub invariant-loop-stream : goal.invariant-loop-stream
invariant-loop-stream g l = HasAsked (g.T.Turns.standing l.fn.turns) (g.T.Turns.standing l.turns) l.fn.handle l.stream l.found.items
