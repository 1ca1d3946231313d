use Rattle.std.proofs.Common.{◌∙◌, sym, subst}
use Rattle.cc_holds.specs.Stands.{HoldsStand}
use Rattle.cc_holds.proofs.KeptReads.{maker-kept}
use Rattle.cc_holds.proofs.open_holds.OpenHolds.maker.Goals as goal

pub returns : goal.returns
returns c = λ h stands. c.pass_of.ensures ∙ maker-kept c.args.id h c.self.inside.holds (subst (HoldsStand h) (sym c.self.view_is) stands)
