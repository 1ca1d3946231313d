use Rattle.std.proofs.Common.{◌≡◌, take, string_bytes}
use Rattle.cc_print.specs.Text.{table_lines}
use Rattle.cc_print.proofs.text.table_lines.Given as goal

abbrev pub invariant-loop-row : goal.invariant-loop-row
invariant-loop-row l = string_bytes l.text ≡ table_lines l.streams (take l.row-index l.table)
