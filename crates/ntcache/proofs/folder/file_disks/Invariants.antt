use Rattle.std.proofs.Common.{◌≡◌, ◌≤◌, replicate, vec_len, vec_capacity}
use Rattle.ntcache.specs.Edge.{new_file_disk}
use Rattle.ntcache.proofs.folder.file_disks.Given as goal

abbrev pub invariant-loop-k : goal.invariant-loop-k
invariant-loop-k g l = record {
  room : 16 ≤ vec_capacity l.disks;
  few : vec_len l.disks ≤ l.k;
  disks : l.disks.items ≡ replicate l.k new_file_disk;
}
