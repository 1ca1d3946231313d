use Rattle.std.proofs.Common.{◌≡◌, length}
use Rattle.cc_script.specs.Words.{pairs_onto}
use Rattle.cc_script.proofs.byte_word.append_pairs.Given as goal

abbrev pub invariant-loop-a : goal.invariant-loop-a
invariant-loop-a l = pairs_onto l.fn.bytes l.item ≡ pairs_onto l.bytes l.rest

abbrev pub decreases-loop-a : goal.decreases-loop-a
decreases-loop-a l = length l.rest
