use Rattle.std.proofs.Common.{◌≡◌, ◌+◌, ◌≤◌, ◌++◌, length, map, reverse}
use Rattle.std.specs.Prelude.{vec_capacity}
use Rattle.cc_world.specs.declared.rows.StreamRow.{StreamRow}
use Rattle.cc_world.proofs.places.disks_of.Given as goal

abbrev pub invariant-loop-row : goal.invariant-loop-row
invariant-loop-row g l = record {
  moved : map (λ (row : StreamRow g.row.D.Denot). row.disk) l.rows.items ++ reverse l.disks.items
      ≡ map (λ (row : StreamRow g.row.D.Denot). row.disk) l.fn.rows.items;
  room : length l.rows.items + length l.disks.items ≤ vec_capacity l.disks;
}

abbrev pub decreases-loop-row : goal.decreases-loop-row
decreases-loop-row g l = goal.left-loop-row g l
