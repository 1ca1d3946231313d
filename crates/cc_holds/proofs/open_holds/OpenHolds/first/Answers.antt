use Rattle.std.proofs.Common.{◌∙◌, sym, subst}
use Rattle.cc_holds.specs.Stands.{HoldsStand}
use Rattle.std.proofs.Common.{refl, true}
use Rattle.cc_holds.proofs.KeptReads.{least-kept}
use Rattle.cc_holds.proofs.open_holds.OpenHolds.first.Goals as goal

pub returns : goal.returns
returns c = λ h stands.
    c.first.ensures.first
    ∙ least-kept (λ hold. true) (λ kept. true) (λ hold kept is. refl) h c.self.inside.holds (subst (HoldsStand h) (sym c.self.view_is) stands)
