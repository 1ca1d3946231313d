use Rattle.std.proofs.lemmas.List.{get_or_read}
use Rattle.cc_vacb.specs.Block.{no_block}
use Rattle.cc_vacb.proofs.Prune.{looked_above, parent_some, parent_leads}
use Rattle.cc_vacb.proofs.tree.parent_of.Goals as goal

pub unreachable-requires : goal.unreachable-requires
unreachable-requires c =
    let b = get_or_read c.args.blocks.now c.args.node _ c.requires.node_in c.index-blocks-node.is no_block in
    parent_some c.args.top c.args.blocks.now c.args.node c.requires.tree c.requires.inner c.requires.node_in (looked_above _ _ _ _ _ _ _ c.in-None.ensures c.height.ensures c.prefix.ensures b)

pub returns : goal.returns
returns c =
    let b = get_or_read c.args.blocks.now c.args.node _ c.requires.node_in c.index-blocks-node.is no_block in
    parent_leads c.args.top c.args.blocks.now c.args.node _ c.requires.tree c.requires.inner c.requires.node_in (looked_above _ _ _ _ _ _ _ c.in-Some.ensures c.height.ensures c.prefix.ensures b)
