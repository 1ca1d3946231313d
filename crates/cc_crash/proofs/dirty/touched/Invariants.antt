use Rattle.std.proofs.Common.{◌≡◌, take}
use Rattle.cc_model.specs.Touches.{touched}
use Rattle.cc_crash.specs.Effects.{effects}
use Rattle.cc_crash.proofs.dirty.touched.Given as goal

abbrev pub invariant-loop-i : goal.invariant-loop-i
invariant-loop-i l = l.pages.items ≡ touched (effects (take l.i l.journal) l.stream)
