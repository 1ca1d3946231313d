use Rattle.std.proofs.Common.{◌+◌, ◌-◌, ◌∙◌, ap, sym, subst}
use Rattle.cc_holds.specs.Blocks.{HasHeldBlocks, IsPlaceOf}
use Rattle.cc_holds.proofs.BlockNumbers.{count-with}
use Rattle.cc_holds.proofs.held_blocks.HeldBlocks.count_with.Goals as goal

pub returns : goal.returns
returns c = λ bs has.
    ap (λ n. c.place_of-before.result + (n - c.place_of-after.result) + (c.args.end - c.args.first)) (c.len.ensures ∙ c.self.inside.rows.ok.0)
    ∙ count-with c.self.inside.rows.items c.self.invariant c.args.first c.args.end c.place_of-before.result c.place_of-after.result c.requires.in_order
    (subst (λ rows. IsPlaceOf c.args.first rows c.place_of-before.result) c.deref.ensures.value c.place_of-before.ensures)
    (subst (λ rows. IsPlaceOf c.args.end rows c.place_of-after.result) c.deref-2.ensures.value c.place_of-after.ensures) bs (subst (λ rows. HasHeldBlocks rows bs) (sym c.self.view_is) has)
