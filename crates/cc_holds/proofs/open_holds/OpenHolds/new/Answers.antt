use Rattle.std.proofs.Common.{sym, subst}
use Rattle.std.specs.Prelude.{[]}
use Rattle.cc_holds.specs.Stands.{HoldsStand}
use Rattle.cc_holds.proofs.HoldsStanding.{stands-begun}
use Rattle.cc_holds.proofs.open_holds.OpenHolds.new.Goals as goal

pub returns : goal.returns
returns c = record { stands = subst (HoldsStand []) (sym c.new.ensures) stands-begun }
