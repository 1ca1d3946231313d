use Rattle.std.proofs.Common.{◌≡◌, ◌≤◌, ◌-◌, ◌++◌}
use Rattle.cc_script.specs.Generator.{drawn_lines}
use Rattle.cc_script.proofs.generator.lines.Given as goal

abbrev pub invariant-loop-number : goal.invariant-loop-number
invariant-loop-number l = (l.lines ++ drawn_lines (4003 - l.number) l.number l.generator.state ≡ drawn_lines 4000 3 l.n) × (l.number ≤ 4003)
