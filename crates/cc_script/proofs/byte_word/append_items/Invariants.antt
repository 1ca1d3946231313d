use Rattle.std.proofs.Common.{◌≡◌, length}
use Rattle.cc_script.specs.Text.{parts}
use Rattle.cc_script.specs.Words.{items_onto}
use Rattle.cc_script.proofs.byte_word.append_items.Given as goal

abbrev pub invariant-loop-behind : goal.invariant-loop-behind
invariant-loop-behind l = items_onto l.fn.bytes (parts 44 l.word) ≡ items_onto l.bytes (parts 44 l.rest)

abbrev pub decreases-loop-behind : goal.decreases-loop-behind
decreases-loop-behind l = length l.rest
