-- A hold that is open is touched; a write through one that is not there changes no row.
use Rattle.std.proofs.Common.{sym, subst}
use Rattle.std.proofs.lemmas.Result.{on_ok_weaker}
use Rattle.cc_holds.specs.Stands.{HoldsStand}
use Rattle.cc_holds.proofs.Found.{is-there, is-absent}
use Rattle.cc_holds.proofs.HoldsStanding.{stands-written, stands-unwritten}
use Rattle.cc_holds.proofs.open_holds.OpenHolds.write.Goals as goal

pub returns-else-is_some-clause-stands : goal.returns-else-is_some-clause-stands
returns-else-is_some-clause-stands c =
    λ h pass at bytes reply stands is.
    subst (HoldsStand _) c.self.view_is
    (stands-unwritten c.args.id c.args.span at bytes is h c.self.inside.holds (subst (HoldsStand h) (sym c.self.view_is) stands) pass reply
    (is-absent c.get.result _ c.get.ensures (cc)))

pub returns-then-is_some-clause-stands : goal.returns-then-is_some-clause-stands
returns-then-is_some-clause-stands c =
    on_ok_weaker c.touch.result
    (λ changes h pass at bytes reply stands is.
    stands-written c.args.id c.args.span at bytes is h c.self.inside.holds (subst (HoldsStand h) (sym c.self.view_is) stands) pass reply _
    (is-there c.get.result _ c.get.ensures (cc)) changes)
    c.touch.ensures.ok
