use Rattle.cc_locks.specs.Place.{CoversClass}
use Rattle.cc_locks.proofs.Classes.{IsLeastBelow}
use Rattle.cc_locks.proofs.index.LockIndex.least.Given as goal

abbrev pub invariant-loop-class : goal.invariant-loop-class
invariant-loop-class l = record {
  below : IsLeastBelow l.asked l.self l.class l.found;
  covers : CoversClass l.class l.reach;
}
