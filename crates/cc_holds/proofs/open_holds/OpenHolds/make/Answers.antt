use Rattle.std.proofs.Common.{sym, subst}
use Rattle.std.proofs.lemmas.Result.{on_ok_weaker}
use Rattle.std.specs.Prelude.{◌∷◌}
use Rattle.cc_model.specs.History.{Did}
use Rattle.cc_holds.specs.Stands.{HoldsStand}
use Rattle.cc_holds.proofs.HoldsStanding.{stands-made}
use Rattle.cc_holds.proofs.open_holds.OpenHolds.make.Goals as goal

pub returns-clause-stands : goal.returns-clause-stands
returns-clause-stands c =
    on_ok_weaker c.add.result
    (λ is h call reply stands makes below.
    subst (HoldsStand (Did c.args.pass call reply ∷ h)) (sym is)
    (stands-made c.args.row h c.self.inside.holds c.args.pass call reply (subst (HoldsStand h) (sym c.self.view_is) stands) makes below))
    c.add.ensures.ok
