use Rattle.std.proofs.Common.{◌≡◌, map, take}
use Rattle.cc_redo.specs.Heard.{redone_valid}
use Rattle.cc_redo.proofs.streams.answer.Given as goal

abbrev pub invariant-loop-redo : goal.invariant-loop-redo
invariant-loop-redo l = l.valids.items ≡ map (redone_valid l.entries) (take l.redo-index l.streams)
