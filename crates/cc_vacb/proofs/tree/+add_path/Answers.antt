-- A path that is there is found; else the path above it is, and the new index block goes into the slot for it.
use Rattle.std.proofs.Common.{◌≡◌, ℕ, sym, ap, ◌∙◌, arith, List, Option}
use Rattle.cc_vacb.specs.Block.{Block}
use Rattle.cc_vacb.specs.Index.{reach}
use Rattle.cc_vacb.proofs.Path.{path_found, path_step, path_width, deeper, covered_below}
use Rattle.cc_vacb.proofs.tree.+add_path.Goals as goal

looked : (bs cs : List Block) (d p : ℕ) (o : Option ℕ) → cs ≡ bs → o ≡ reach cs d p → reach bs d p ≡ o
looked bs cs d p o e f = ap (λ (n : List Block). reach n d p) (sym e) ∙ sym f

pub returns-in_ok-reserve-in-Some-clause-extends : goal.returns-in_ok-reserve-in-Some-clause-extends
returns-in_ok-reserve-in-Some-clause-extends t c = path_found c.args.top c.args.depth c.args.prefix c.args.blocks.now.items c.reserve.new.self.items c.in-Some.node c.reserve.ensures.items c.requires.tree c.requires.filled (looked _ _ _ _ _ c.deref.ensures.value c.in-Some.ensures)

pub overflow_sub-depth : goal.overflow_sub-depth
overflow_sub-depth t c = deeper c.args.blocks.now.items c.args.depth c.args.prefix c.requires.covered (looked _ _ _ _ _ c.deref.ensures.value c.in-None.ensures)

pub add_path-requires : goal.add_path-requires
add_path-requires t c =
    let g = deeper c.args.blocks.now.items c.args.depth c.args.prefix c.requires.covered (looked _ _ _ _ _ c.deref.ensures.value c.in-None.ensures) in
    let b = covered_below c.args.depth c.args.prefix g c.requires.covered in
    (omega (arith, c.decreases), (c.requires.tree, (c.requires.filled, (omega (arith, c.requires.depth_in), (b, (omega (arith, c.requires.numbers), omega (arith, c.requires.few_pending)))))))

pub put_slot-requires-clause-slot_in : goal.put_slot-requires-clause-slot_in
put_slot-requires-clause-slot_in t c =
    let g = deeper c.args.blocks.now.items c.args.depth c.args.prefix c.requires.covered (looked _ _ _ _ _ c.deref.ensures.value c.in-None.ensures) in
    path_width c.args.top c.args.depth c.args.prefix _ _ _ _ _ g c.requires.depth_in c.in_ok-parent-in-None.ensures.extends c.push_reserved.ensures.items

pub returns-in_ok-parent-in-None-clause-extends : goal.returns-in_ok-parent-in-None-clause-extends
returns-in_ok-parent-in-None-clause-extends t c =
    let e = looked _ _ _ _ _ c.deref.ensures.value c.in-None.ensures in
    let g = deeper c.args.blocks.now.items c.args.depth c.args.prefix c.requires.covered e in
    path_step c.args.top c.args.depth c.args.prefix _ _ _ _ _ _ _ g c.requires.depth_in e c.in_ok-parent-in-None.ensures.extends c.in_ok-block-in-None.ensures c.push_reserved.ensures.items c.put_slot.ensures.put (c.len-node.ensures ∙ c.add_path.new.blocks.ok.0)
