use Rattle.std.proofs.Common.{◌≡◌, ◌+◌, ◌≤◌, drop}
use Rattle.cc_script.specs.EventActions.{defer_lines}
use Rattle.cc_script.proofs.script.Script.defers.Given as goal

abbrev pub invariant-loop-line : goal.invariant-loop-line
invariant-loop-line l = (l.count + defer_lines (drop l.line-index l.self.lines) ≡ defer_lines l.self.lines) × (l.count ≤ l.line-index)
