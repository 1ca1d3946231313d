use Rattle.std.proofs.Common.{rules, arith}
use Rattle.cc_holds.proofs.BlockNumbers.{range-more}
use Rattle.cc_holds.proofs.held_blocks.add_range.Goals as goal

pub loop-block-preserved : goal.loop-block-preserved
loop-block-preserved c =
    range-more _ _ c.loop-block.blocks.items c.args.first c.loop-block.block (omega arith) c.loop-block.invariant (search rules)
