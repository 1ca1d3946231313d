use Rattle.cc_shim.proofs.Writing.{HasZeroed}
use Rattle.cc_shim.proofs.writes.zero_gap.Given as goal

abbrev pub invariant-loop-k : goal.invariant-loop-k
invariant-loop-k g l = HasZeroed (g.T.Turns.standing l.fn.turns) (g.T.Turns.standing l.turns) l.fn.file l.fn.from l.fn.to l.k
