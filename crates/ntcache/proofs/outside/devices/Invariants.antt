use Rattle.std.proofs.Common.{◌≡◌, ◌≤◌, replicate, vec_len, vec_capacity}
use Rattle.ntcache.specs.Edge.{new_disk}
use Rattle.ntcache.proofs.outside.devices.Given as goal

abbrev pub invariant-loop-made : goal.invariant-loop-made
invariant-loop-made l = record {
  room : 16 ≤ vec_capacity l.disks;
  few : vec_len l.disks ≤ l.made;
  disks : l.disks.items ≡ replicate l.made new_disk;
}
