use Rattle.std.proofs.Common.{◌≡◌, ◌+◌, length, take}
use Rattle.cc_crash.specs.Effects.{AreSizesOverJournal}
use Rattle.cc_crash.proofs.sizes.sizes.Given as goal

abbrev pub invariant-loop-i : goal.invariant-loop-i
invariant-loop-i l = record {
  each : AreSizesOverJournal l.found.items (take l.i l.journal) l.stream;
  count : length l.found.items ≡ l.i + 1;
}
