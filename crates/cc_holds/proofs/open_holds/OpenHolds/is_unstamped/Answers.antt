use Rattle.std.proofs.Common.{◌∙◌, ap, sym, subst}
use Rattle.cc_holds.specs.Stands.{HoldsStand}
use Rattle.std.specs.Prelude.{is_some}
use Rattle.cc_holds.specs.Holds.{is_unstamped_through}
use Rattle.cc_holds.proofs.KeptReads.{any-kept, owes-kept, found-any}
use Rattle.cc_holds.proofs.open_holds.OpenHolds.is_unstamped.Goals as goal

pub returns : goal.returns
returns c = λ h stands.
    c.is_some.ensures
    ∙ (ap is_some c.unstamped.ensures.first
    ∙ (found-any (is_unstamped_through c.args.page) c.self.inside.holds
    ∙ any-kept _ _ (owes-kept c.args.page) h c.self.inside.holds (subst (HoldsStand h) (sym c.self.view_is) stands)))
