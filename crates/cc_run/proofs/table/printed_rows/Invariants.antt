use Rattle.std.proofs.Common.{◌≡◌, ◌≤◌, length, map, take}
use Rattle.std.specs.Prelude.{vec_capacity}
use Rattle.cc_run.specs.Rows.{printed_row}
use Rattle.cc_run.proofs.table.printed_rows.Given as goal

abbrev pub invariant-loop-row : goal.invariant-loop-row
invariant-loop-row l = record {
  room : length l.rows ≤ vec_capacity l.printed;
  long : length l.printed.items ≡ l.row-index;
  rows : l.printed.items ≡ map printed_row (take l.row-index l.rows);
}
