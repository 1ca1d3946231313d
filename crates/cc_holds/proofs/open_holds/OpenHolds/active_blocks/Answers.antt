use Rattle.std.proofs.Common.{◌∙◌, ap, sym, subst, min}
use Rattle.cc_holds.specs.Stands.{HoldsStand}
use Rattle.cc_holds.proofs.KeptBlocks.{active-kept}
use Rattle.cc_holds.proofs.open_holds.OpenHolds.active_blocks.Goals as goal

pub returns : goal.returns
returns c = λ h stands.
    c.active_blocks.ensures
    ∙ ap (λ n. min n 4294967295) (active-kept h c.self.inside.holds (subst (HoldsStand h) (sym c.self.view_is) stands))
