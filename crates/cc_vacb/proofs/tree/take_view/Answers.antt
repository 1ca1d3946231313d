-- By what the look-up finds: no path, no view, or a view; with its slot cleared the tree is one still, and is pruned.
use Rattle.std.proofs.Common.{sym}
use Rattle.cc_vacb.proofs.Views.{cleared, take_none, take_some, look_none, look_some, look_slot, look_entry}
use Rattle.cc_vacb.proofs.tree.take_view.Goals as goal

pub prune-requires-clause-tree : goal.prune-requires-clause-tree
prune-requires-clause-tree c =
    let bs = c.args.blocks.now.items in
    let r = look_some c.args.top c.args.block _ bs _ c.deref.ensures.value c.in-Some.ensures in
    let s = look_slot c.args.top c.args.block _ bs _ _ _ r c.deref-in-Some.ensures.value c.slot_in.ensures c.in-Some-view.ensures in
    (cleared c.args.top c.args.block _ bs _ _ c.requires.tree c.requires.filled r s c.put_slot.ensures.put).tree

pub returns-in-None-clause-value : goal.returns-in-None-clause-value
returns-in-None-clause-value c = sym (look_none c.args.top c.args.block c.args.blocks.now.items _ c.deref.ensures.value c.in-None.ensures)

pub returns-in-None-clause-taken : goal.returns-in-None-clause-taken
returns-in-None-clause-taken c = take_none c.args.top c.args.block c.args.blocks.now.items c.requires.tree c.requires.filled (look_none c.args.top c.args.block c.args.blocks.now.items _ c.deref.ensures.value c.in-None.ensures)

pub returns-in-None-view-clause-value : goal.returns-in-None-view-clause-value
returns-in-None-view-clause-value c =
    let bs = c.args.blocks.now.items in
    let r = look_some c.args.top c.args.block _ bs _ c.deref.ensures.value c.in-Some.ensures in
    sym (look_entry c.args.top c.args.block _ bs _ r (look_slot c.args.top c.args.block _ bs _ _ _ r c.deref-in-Some.ensures.value c.slot_in.ensures c.in-None-view.ensures))

pub returns-in-None-view-clause-taken : goal.returns-in-None-view-clause-taken
returns-in-None-view-clause-taken c =
    let bs = c.args.blocks.now.items in
    let r = look_some c.args.top c.args.block _ bs _ c.deref.ensures.value c.in-Some.ensures in
    take_none c.args.top c.args.block bs c.requires.tree c.requires.filled (look_entry c.args.top c.args.block _ bs _ r (look_slot c.args.top c.args.block _ bs _ _ _ r c.deref-in-Some.ensures.value c.slot_in.ensures c.in-None-view.ensures))

pub returns-in-Some-view-clause-value : goal.returns-in-Some-view-clause-value
returns-in-Some-view-clause-value c =
    let bs = c.args.blocks.now.items in
    let r = look_some c.args.top c.args.block _ bs _ c.deref.ensures.value c.in-Some.ensures in
    sym (look_entry c.args.top c.args.block _ bs _ r (look_slot c.args.top c.args.block _ bs _ _ _ r c.deref-in-Some.ensures.value c.slot_in.ensures c.in-Some-view.ensures))

pub returns-in-Some-view-clause-taken : goal.returns-in-Some-view-clause-taken
returns-in-Some-view-clause-taken c =
    let bs = c.args.blocks.now.items in
    let r = look_some c.args.top c.args.block _ bs _ c.deref.ensures.value c.in-Some.ensures in
    let s = look_slot c.args.top c.args.block _ bs _ _ _ r c.deref-in-Some.ensures.value c.slot_in.ensures c.in-Some-view.ensures in
    take_some c.args.top c.args.block _ bs _ _ _ (look_entry c.args.top c.args.block _ bs _ r s) (cleared c.args.top c.args.block _ bs _ _ c.requires.tree c.requires.filled r s c.put_slot.ensures.put) c.prune.ensures.kept c.prune.ensures.filled
