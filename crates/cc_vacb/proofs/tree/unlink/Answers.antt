-- By whether the block is the last one: its slot is cleared, or the slot of the last one leads to its place.
use Rattle.std.proofs.Common.{◌<◌, ◌-◌, length, ap, ◌∙◌, arith}
use Rattle.std.proofs.lemmas.List.{get_or_read}
use Rattle.cc_vacb.specs.Block.{Block, no_block}
use Rattle.cc_vacb.proofs.Prune.{unlink_last, unlink_moved}
use Rattle.cc_vacb.proofs.tree.unlink.Goals as goal

pub returns-then-node-last : goal.returns-then-node-last
returns-then-node-last c =
    let bs = c.args.blocks.now.items in
    let b = get_or_read bs c.args.node _ c.requires.node_in c.index.ensures no_block in
    unlink_last c.args.top bs c.deref.result.now _ c.args.node _ c.prefix.result _ c.requires.tree c.deref.ensures.value c.parent_of-parent.ensures (c.prefix.ensures ∙ ap (λ (z : Block). z.prefix) b) c.put_slot.ensures.put (omega (arith, c.if-node-last.true, c.len.ensures, c.args.blocks.now.ok.0))

pub returns-else-node-last : goal.returns-else-node-last
returns-else-node-last c =
    let bs = c.args.blocks.now.items in
    let b = get_or_read bs c.args.node _ c.requires.node_in c.index.ensures no_block in
    let v = c.args.blocks.now.ok.0 in
    let m = c.len.result - 1 in
    let l : m < length bs = omega (arith, c.len.ensures, v, c.requires.node_in) in
    let o = get_or_read bs m _ l c.index-else-node-last.ensures no_block in
    unlink_moved c.args.top bs c.deref.result.now c.deref-else-node-last.result.now _ _ c.args.node _ c.prefix.result m _ _ c.prefix-else-node-last.result c.requires.tree c.deref.ensures.value c.deref-else-node-last.ensures.value c.parent_of-parent.ensures (c.prefix.ensures ∙ ap (λ (z : Block). z.prefix) b) c.parent_of-above.ensures (c.prefix-else-node-last.ensures ∙ ap (λ (z : Block). z.prefix) o) c.put_slot-else-node-last.ensures.put c.put_slot-else-node-last-2.ensures.put c.if-node-last.false (omega (arith, c.len.ensures, v))
