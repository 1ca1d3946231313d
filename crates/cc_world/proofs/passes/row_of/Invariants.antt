use Rattle.std.proofs.Common.{◌≡◌, nat_eq, drop}
use Rattle.std.specs.Map.{lookup}
use Rattle.cc_world.proofs.passes.row_of.Given as goal

-- what the rows keep of the pass is what those keep that are left
abbrev pub invariant-loop-of : goal.invariant-loop-of
invariant-loop-of l = lookup (nat_eq l.pass) l.rows ≡ lookup (nat_eq l.pass) (drop l.of-index l.rows)
