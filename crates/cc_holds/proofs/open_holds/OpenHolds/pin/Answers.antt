use Rattle.std.proofs.Common.{sym, subst}
use Rattle.cc_holds.specs.Stands.{HoldsStand}
use Rattle.cc_holds.proofs.Found.{is-there, is-absent}
use Rattle.cc_holds.proofs.HoldsStanding.{stands-pinned, stands-unpinned}
use Rattle.cc_holds.proofs.open_holds.OpenHolds.pin.Goals as goal

pub returns-then-is_some : goal.returns-then-is_some
returns-then-is_some c = record {
  stands = λ h pass reply stands.
      stands-pinned c.args.id c.args.exclusive h c.self.inside.holds (subst (HoldsStand h) (sym c.self.view_is) stands) pass reply _
      (is-there c.get.result _ c.get.ensures (cc)) c.pin.ensures;
}

pub returns-else-is_some : goal.returns-else-is_some
returns-else-is_some c = record {
  stands = λ h pass reply stands.
      subst (HoldsStand _) c.self.view_is
      (stands-unpinned c.args.id c.args.exclusive h c.self.inside.holds (subst (HoldsStand h) (sym c.self.view_is) stands) pass reply
      (is-absent c.get.result _ c.get.ensures (cc)));
}
