use Rattle.std.proofs.Common.{◌≡◌, ◌++◌, take, map}
use Rattle.cc_format.specs.LogRecords.{spelled_rows}
use Rattle.cc_pieces.specs.Checkpoints.{oldest_row}
use Rattle.cc_shim.proofs.rows.spell_rows.Given as goal

abbrev pub invariant-loop-row : goal.invariant-loop-row
invariant-loop-row l = l.out.items ≡ l.initial.out.items ++ spelled_rows (map oldest_row (take l.row-index l.rows))
