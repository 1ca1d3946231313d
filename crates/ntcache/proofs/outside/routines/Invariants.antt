use Rattle.std.proofs.Common.{◌≡◌, ◌≤◌, replicate, vec_len, vec_capacity}
use Rattle.ntcache.specs.Edge.{new_routine}
use Rattle.ntcache.proofs.outside.routines.Given as goal

abbrev pub invariant-loop-made : goal.invariant-loop-made
invariant-loop-made l = record {
  room : 64 ≤ vec_capacity l.routines;
  few : vec_len l.routines ≤ l.made;
  routines : l.routines.items ≡ replicate l.made new_routine;
}
