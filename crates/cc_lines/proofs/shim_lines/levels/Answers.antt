-- It is refused for nothing but that the object is not cached.
use Rattle.std.specs.Prelude.{refl}
use Rattle.std.proofs.Common.{subst, sym}
use Rattle.cc_entry.specs.declared.error.CcError.{CcError}
use Rattle.cc_writes.specs.Ways.{IsFullError}
use Rattle.cc_lines.proofs.shim_lines.levels.Goals as goal

pub returns-in-Err-clause-full : goal.returns-in-Err-clause-full
returns-in-Err-clause-full g c =
    subst (λ (e : CcError). IsFullError 3 (g.T.Turns.standing c.index_levels.new.turns) e)
    (sym (c.in-Err.ensures.ends.sure c.in-Err.error refl)) tt
