use Rattle.std.proofs.Common.{◌≡◌, ◌++◌, ◌+◌, drop, string_bytes}
use Rattle.cc_print.specs.Text.{journal_from}
use Rattle.cc_print.proofs.text.push_journal_lines.Given as goal

abbrev pub invariant-loop-i : goal.invariant-loop-i
invariant-loop-i l = string_bytes l.text ++ journal_from l.streams (l.i + 1) (drop l.i l.journal) ≡ string_bytes l.initial.text ++ journal_from l.streams 1 l.journal
