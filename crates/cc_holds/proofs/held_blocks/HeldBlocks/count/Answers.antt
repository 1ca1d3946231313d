use Rattle.std.proofs.Common.{sym, subst, arith}
use Rattle.cc_holds.specs.Blocks.{HasHeldBlocks}
use Rattle.cc_holds.proofs.BlockNumbers.{count-blocks}
use Rattle.cc_holds.proofs.held_blocks.HeldBlocks.count.Goals as goal

pub returns : goal.returns
returns c = λ bs has.
    let counted = count-blocks c.self.inside.rows.items bs c.self.invariant (subst (λ rows. HasHeldBlocks rows bs) (sym c.self.view_is) has) in
    omega (arith, c.len.ensures, counted, c.self.inside.rows.ok.0)
