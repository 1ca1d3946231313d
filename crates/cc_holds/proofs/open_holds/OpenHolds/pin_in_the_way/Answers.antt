use Rattle.std.proofs.Common.{◌∙◌, sym, subst}
use Rattle.cc_holds.specs.Stands.{HoldsStand}
use Rattle.cc_holds.proofs.KeptReads.{least-kept, bars-kept}
use Rattle.cc_holds.proofs.open_holds.OpenHolds.pin_in_the_way.Goals as goal

pub returns : goal.returns
returns c = λ h stands.
    c.pin_conflict.ensures.first
    ∙ least-kept _ _ (bars-kept c.args.span c.args.exclusive) h c.self.inside.holds (subst (HoldsStand h) (sym c.self.view_is) stands)
