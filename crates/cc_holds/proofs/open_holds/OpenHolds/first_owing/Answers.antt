use Rattle.std.proofs.Common.{◌∙◌, sym, subst}
use Rattle.cc_holds.specs.Stands.{HoldsStand}
use Rattle.cc_holds.proofs.KeptReads.{least-kept, owes-kept}
use Rattle.cc_holds.proofs.open_holds.OpenHolds.first_owing.Goals as goal

pub returns : goal.returns
returns c = λ h stands.
    c.unstamped.ensures.first
    ∙ least-kept _ _ (owes-kept c.args.page) h c.self.inside.holds (subst (HoldsStand h) (sym c.self.view_is) stands)
