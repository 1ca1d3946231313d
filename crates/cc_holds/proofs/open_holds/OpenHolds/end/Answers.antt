use Rattle.std.proofs.Common.{sym, subst}
use Rattle.cc_holds.specs.Stands.{HoldsStand}
use Rattle.cc_holds.proofs.HoldsStanding.{stands-ended}
use Rattle.cc_holds.proofs.open_holds.OpenHolds.end.Goals as goal

pub returns : goal.returns
returns c = record {
  stands = λ h pass reply stands.
      subst (HoldsStand _) (sym c.remove.ensures.rest)
      (stands-ended c.args.id h c.self.inside.holds pass reply (subst (HoldsStand h) (sym c.self.view_is) stands));
}
