use Rattle.std.proofs.Common.{◌≡◌, take, string_bytes}
use Rattle.cc_print.specs.Text.{trace_lines}
use Rattle.cc_print.proofs.text.trace_lines.Given as goal

abbrev pub invariant-loop-entry : goal.invariant-loop-entry
invariant-loop-entry l = string_bytes l.text ≡ trace_lines l.streams (take l.entry-index l.journal)
