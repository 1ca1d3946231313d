use Rattle.std.proofs.Common.{◌≡◌, take}
use Rattle.cc_model.specs.Touches.{valid_of}
use Rattle.cc_crash.specs.Effects.{effects}
use Rattle.cc_crash.proofs.sizes.valid_with.Given as goal

abbrev pub invariant-loop-i : goal.invariant-loop-i
invariant-loop-i l = l.valid ≡ valid_of (effects (take l.i l.journal) l.stream)
