use Rattle.std.proofs.Common.{◌≡◌, take}
use Rattle.cc_model.specs.Objects.{objects}
use Rattle.cc_crash.specs.Effects.{effects}
use Rattle.cc_crash.proofs.maps.open_objects.Given as goal

abbrev pub invariant-loop-entry : goal.invariant-loop-entry
invariant-loop-entry l = l.open.items ≡ objects (effects (take l.entry-index l.journal) l.stream)
