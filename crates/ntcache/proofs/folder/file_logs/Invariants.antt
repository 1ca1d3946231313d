use Rattle.std.proofs.Common.{◌≡◌, ◌≤◌, replicate, vec_len, vec_capacity}
use Rattle.ntcache.specs.Edge.{new_file_log}
use Rattle.ntcache.proofs.folder.file_logs.Given as goal

abbrev pub invariant-loop-k : goal.invariant-loop-k
invariant-loop-k g l = record {
  room : 4 ≤ vec_capacity l.logs;
  few : vec_len l.logs ≤ l.k;
  logs : l.logs.items ≡ replicate l.k new_file_log;
}
