use Rattle.std.proofs.Common.{◌≡◌, drop}
use Rattle.cc_world.specs.Syncs.{may_flush, unsettled_at}
use Rattle.cc_world.proofs.syncs.may_flush.Given as goal

-- what the rows tell is what those tell that are left
abbrev pub invariant-loop-row : goal.invariant-loop-row
invariant-loop-row l = unsettled_at l.rows l.pass l.stream ≡ unsettled_at (drop l.row-index l.rows) l.pass l.stream
