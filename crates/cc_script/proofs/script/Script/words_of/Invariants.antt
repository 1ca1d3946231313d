use Rattle.std.proofs.Common.{◌≡◌, ◌+◌, ◌≤◌, drop}
use Rattle.cc_script.specs.HoldWords.{words_bound}
use Rattle.cc_script.proofs.script.Script.words_of.Given as goal

abbrev pub invariant-loop-line : goal.invariant-loop-line
invariant-loop-line l = (l.count + words_bound l.caller (drop l.line-index l.self.lines) ≡ words_bound l.caller l.self.lines) × (l.count ≤ l.line-index)
