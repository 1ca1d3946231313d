use Rattle.std.proofs.Common.{sym, subst}
use Rattle.cc_ahead.specs.Kept.{PrivateStands}
use Rattle.cc_ahead.proofs.MapSteps.{stands-done}
use Rattle.cc_ahead.proofs.maps.PrivateMaps.done.Goals as goal

pub returns : goal.returns
returns c = record {
  stands = λ h pass stands says.
      let stood = subst (PrivateStands h) (sym c.self.view_is) stands in
      rw c.follow.ensures (stands-done c.args.call.now c.args.reply.now c.args.was_open c.self.inside.maps c.self.invariant h pass stood says);
}
