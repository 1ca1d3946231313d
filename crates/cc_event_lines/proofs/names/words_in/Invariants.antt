use Rattle.std.proofs.Common.{◌≡◌, ◌+◌, ◌≤◌, drop}
use Rattle.cc_event_lines.specs.Names.{words_in}
use Rattle.cc_event_lines.proofs.names.words_in.Given as goal

abbrev pub invariant-loop-line : goal.invariant-loop-line
invariant-loop-line l = (l.count + words_in (drop l.line-index l.lines) ≡ words_in l.lines) × (l.count ≤ l.line-index)
