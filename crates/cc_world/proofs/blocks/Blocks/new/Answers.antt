use Rattle.cc_world.proofs.BlockRows.{blocks-fresh}
use Rattle.cc_world.proofs.blocks.Blocks.new.Goals as goal

pub returns : goal.returns
returns c = blocks-fresh _
