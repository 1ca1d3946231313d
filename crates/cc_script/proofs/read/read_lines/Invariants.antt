use Rattle.std.proofs.Common.{◌≡◌, ◌≤◌, length}
use Rattle.cc_script.specs.Text.{lines}
use Rattle.cc_script.specs.Grammar.{script_of, lines_of}
use Rattle.cc_script.proofs.read.read_lines.Given as goal

abbrev pub invariant-loop-rest : goal.invariant-loop-rest
invariant-loop-rest l = (l.line ≤ 65536) × (script_of l.mode l.bytes ≡ lines_of l.mode l.line (lines l.rest) l.reading)

abbrev pub decreases-loop-rest : goal.decreases-loop-rest
decreases-loop-rest l = length l.rest
