use Rattle.std.proofs.Common.{◌∙◌, ap, sym, subst}
use Rattle.cc_holds.specs.Holds.{pin_conflicts, first_id}
use Rattle.cc_holds.specs.Stands.{HoldsStand}
use Rattle.cc_holds.proofs.KeptReads.{least-kept, bars-kept}
use Rattle.cc_holds.proofs.open_holds.OpenHolds.pin_in_bytes.Goals as goal

pub returns : goal.returns
returns c = λ h stands.
    c.first_in_the_way.ensures
    ∙ (ap (first_id (pin_conflicts (record { from = c.args.from; to = c.args.to }) c.args.exclusive)) c.all.ensures
    ∙ least-kept _ _ (bars-kept (record { from = c.args.from; to = c.args.to }) c.args.exclusive) h c.self.inside.holds (subst (HoldsStand h) (sym c.self.view_is) stands))
