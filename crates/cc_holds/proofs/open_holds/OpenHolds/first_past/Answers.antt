use Rattle.std.proofs.Common.{◌∙◌, sym, subst}
use Rattle.cc_holds.specs.Stands.{HoldsStand}
use Rattle.cc_holds.proofs.KeptReads.{least-kept, past-kept}
use Rattle.cc_holds.proofs.open_holds.OpenHolds.first_past.Goals as goal

pub returns : goal.returns
returns c = λ h stands.
    c.ending_past.ensures.first
    ∙ least-kept _ _ (past-kept c.args.size) h c.self.inside.holds (subst (HoldsStand h) (sym c.self.view_is) stands)
