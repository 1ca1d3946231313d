use Rattle.std.proofs.Common.{◌≡◌, ◌≤◌, replicate, vec_len, vec_capacity}
use Rattle.ntcache.specs.Edge.{new_log}
use Rattle.ntcache.proofs.outside.logs.Given as goal

abbrev pub invariant-loop-made : goal.invariant-loop-made
invariant-loop-made l = record {
  room : 4 ≤ vec_capacity l.logs;
  few : vec_len l.logs ≤ l.made;
  logs : l.logs.items ≡ replicate l.made new_log;
}
