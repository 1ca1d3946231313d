use Rattle.cc_shim.specs.Reads.{hold_path_of}
use Rattle.cc_shim.proofs.PartReads.{HasRead}
use Rattle.cc_shim.proofs.parts.read_blocks.Given as goal

abbrev pub invariant-loop-block : goal.invariant-loop-block
invariant-loop-block g l = HasRead (g.T.Turns.standing l.fn.turns) (g.T.Turns.standing l.turns) (hold_path_of l.fn.by l.fn.file) l.fn.span l.block l.out
