-- So many streams have locks, and none was granted.
use Rattle.std.proofs.Common.{◌≤◌}
use Rattle.std.specs.Prelude.{vec_capacity}
use Rattle.cc_journal.proofs.LockSteps.{AreFresh}
use Rattle.cc_journal.proofs.locks.StreamLocks.new.Given as goal

abbrev pub invariant-loop-number : goal.invariant-loop-number
invariant-loop-number l = record {
  fresh : AreFresh l.number l.each.items;
  room : 16 ≤ vec_capacity l.each;
}
