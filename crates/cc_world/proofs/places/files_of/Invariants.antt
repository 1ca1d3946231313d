use Rattle.std.proofs.Common.{◌≡◌, ◌+◌, ◌≤◌, ◌++◌, length, map, reverse}
use Rattle.std.specs.Prelude.{vec_capacity}
use Rattle.cc_log.specs.Turn.{LogTurnState}
use Rattle.cc_world.proofs.places.files_of.Given as goal

abbrev pub invariant-loop-log : goal.invariant-loop-log
invariant-loop-log g l = record {
  moved : map (λ (log : LogTurnState g.row.L.Denot). log.file) l.logs.items ++ reverse l.files.items
      ≡ map (λ (log : LogTurnState g.row.L.Denot). log.file) l.fn.logs.items;
  room : length l.logs.items + length l.files.items ≤ vec_capacity l.files;
}

abbrev pub decreases-loop-log : goal.decreases-loop-log
decreases-loop-log g l = goal.left-loop-log g l
