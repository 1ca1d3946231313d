use Rattle.std.proofs.Common.{◌≡◌}
use Rattle.std.specs.Prelude.{drop}
use Rattle.cc_pieces.specs.Restarts.{refused_restart}
use Rattle.cc_run.proofs.openings.refused_restart.Given as goal

-- no line so far was of this log
abbrev pub invariant-loop-number : goal.invariant-loop-number
invariant-loop-number l = refused_restart l.handle l.restarts l.replies ≡ refused_restart l.handle (drop l.number l.restarts) (drop l.number l.replies)
