use Rattle.std.proofs.Common.{◌≤◌, length}
use Rattle.cc_vacb.specs.Index.{block_in}
use Rattle.cc_vacb.specs.Tree.{ChangesTop}
use Rattle.cc_vacb.proofs.roots.lower.Given as goal

abbrev pub invariant-loop-height : goal.invariant-loop-height
invariant-loop-height l = ChangesTop l.top l.height l.initial.blocks.items l.blocks.items × (l.to ≤ l.height) × (l.height ≤ l.top) × (length (block_in l.initial.blocks.items 0).slots ≤ length (block_in l.blocks.items 0).slots)

abbrev pub decreases-loop-height : goal.decreases-loop-height
decreases-loop-height l = l.height
