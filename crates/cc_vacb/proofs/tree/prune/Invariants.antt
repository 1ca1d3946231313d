use Rattle.std.proofs.Common.{◌<◌, length, vec_len}
use Rattle.cc_vacb.specs.Tree.{TreeKept, FilledBut}
use Rattle.cc_vacb.proofs.tree.prune.Given as goal

abbrev pub invariant-loop-node : goal.invariant-loop-node
invariant-loop-node l = TreeKept l.top l.initial.blocks.items l.blocks.items × FilledBut l.node l.blocks.items × (l.node < length l.blocks.items)

abbrev pub decreases-loop-node : goal.decreases-loop-node
decreases-loop-node l = vec_len l.blocks
