use Rattle.std.proofs.Common.{arith}
use Rattle.cc_dirty.proofs.Gap.{remove-down}
use Rattle.cc_dirty.proofs.live.LiveRows.remove.Goals as goal

pub returns-else-place-len-clause-rows : goal.returns-else-place-len-clause-rows
returns-else-place-len-clause-rows c =
    rw (c.remove.ensures.items, ← c.self.view_is) (remove-down c.self.inside.places.items c.self.inside.first c.args.place (omega (arith, c.self.invariant)))
