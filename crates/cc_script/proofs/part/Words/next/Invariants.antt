use Rattle.std.proofs.Common.{◌≡◌, length}
use Rattle.cc_script.specs.Text.{words}
use Rattle.cc_script.proofs.part.Words.next.Given as goal

abbrev pub invariant-loop-self : goal.invariant-loop-self
invariant-loop-self l = words l.initial.self-inside.rest.now ≡ words l.self-inside.rest.now

abbrev pub decreases-loop-self : goal.decreases-loop-self
decreases-loop-self l = length l.self-inside.rest.now
