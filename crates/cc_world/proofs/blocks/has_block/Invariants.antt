use Rattle.std.proofs.Common.{◌≡◌, drop}
use Rattle.cc_world.specs.Blocks.{has_block}
use Rattle.cc_world.proofs.blocks.has_block.Given as goal

-- whether one page is of the block is so of the whole as of what is left
abbrev pub invariant-loop-place : goal.invariant-loop-place
invariant-loop-place l = has_block l.pages l.stream l.block ≡ has_block (drop l.place-index l.pages) l.stream l.block
