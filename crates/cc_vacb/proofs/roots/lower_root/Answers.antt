-- The one child of the root becomes the root, as all entries lie below its first slot; without one the height falls.
use Rattle.std.proofs.lemmas.List.{get_or_read}
use Rattle.cc_vacb.specs.Block.{no_block}
use Rattle.cc_vacb.proofs.Lower.{first_child, no_child_first, lower_step, root_unused_at}
use Rattle.cc_vacb.proofs.Root.{lower_empty}
use Rattle.cc_vacb.proofs.roots.lower_root.Goals as goal

pub unlink-root-requires-clause-node_in : goal.unlink-root-requires-clause-node_in
unlink-root-requires-clause-node_in c =
    let e = first_child c.args.blocks.now.items _ _ _ c.deref.ensures.value c.slot_in.ensures c.in-Some.ensures in
    (c.requires.tree.leads 0 0 c.in-Some.child e).below

pub returns-in-Some-clause-changed : goal.returns-in-Some-clause-changed
returns-in-Some-clause-changed c =
    let r = c.requires in
    let e = first_child c.args.blocks.now.items _ _ _ c.deref.ensures.value c.slot_in.ensures c.in-Some.ensures in
    (lower_step c.args.top c.in-Some.child _ c.args.blocks.now.items _ _ _ r.levels r.tree r.filled r.small e c.unlink-root.ensures c.swap_remove-block.ensures.value c.swap_remove-block.ensures.items).0

pub returns-in-Some-clause-wide : goal.returns-in-Some-clause-wide
returns-in-Some-clause-wide c =
    let r = c.requires in
    let e = first_child c.args.blocks.now.items _ _ _ c.deref.ensures.value c.slot_in.ensures c.in-Some.ensures in
    (lower_step c.args.top c.in-Some.child _ c.args.blocks.now.items _ _ _ r.levels r.tree r.filled r.small e c.unlink-root.ensures c.swap_remove-block.ensures.value c.swap_remove-block.ensures.items).1

pub returns-in-None-clause-changed : goal.returns-in-None-clause-changed
returns-in-None-clause-changed c =
    let r = c.requires in
    let bs = c.args.blocks.now.items in
    let u = root_unused_at c.args.top bs r.levels r.tree r.filled r.small (no_child_first bs _ _ c.deref.ensures.value c.slot_in.ensures c.in-None.ensures) in
    let q = get_or_read bs 0 _ r.tree.some c.index_mut-in-None.ensures.value no_block in
    (lower_empty c.args.top bs _ _ r.levels r.tree u q c.set_height.ensures).0

pub returns-in-None-clause-wide : goal.returns-in-None-clause-wide
returns-in-None-clause-wide c =
    let r = c.requires in
    let bs = c.args.blocks.now.items in
    let u = root_unused_at c.args.top bs r.levels r.tree r.filled r.small (no_child_first bs _ _ c.deref.ensures.value c.slot_in.ensures c.in-None.ensures) in
    let q = get_or_read bs 0 _ r.tree.some c.index_mut-in-None.ensures.value no_block in
    (lower_empty c.args.top bs _ _ r.levels r.tree u q c.set_height.ensures).1
