use Rattle.std.proofs.Common.{◌∙◌, ap, sym, subst}
use Rattle.cc_holds.specs.Stands.{HoldsStand}
use Rattle.std.specs.Prelude.{length}
use Rattle.cc_holds.proofs.KeptReads.{length-kept}
use Rattle.cc_holds.proofs.open_holds.OpenHolds.count.Goals as goal

pub returns : goal.returns
returns c = λ h stands.
    ap length c.all.ensures ∙ length-kept h c.self.inside.holds (subst (HoldsStand h) (sym c.self.view_is) stands)
