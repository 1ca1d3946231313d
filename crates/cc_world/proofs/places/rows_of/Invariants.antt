use Rattle.std.proofs.Common.{◌≡◌, ◌+◌, length, reverse, drop}
use Rattle.std.specs.Prelude.{vec_capacity}
use Rattle.cc_world.specs.World.{AreAt, IsNewRow}
use Rattle.cc_world.proofs.places.rows_of.Given as goal

abbrev pub invariant-loop-disk : goal.invariant-loop-disk
invariant-loop-disk g l = record {
  rows : AreAt (length l.rows.items) (IsNewRow l.fn.disks.items) l.rows.items;
  left : reverse l.disks.items ≡ drop (length l.rows.items) l.fn.disks.items;
  books : reverse l.books.items ≡ drop (length l.rows.items) l.fn.books.items;
  paired : length l.books.items ≡ length l.disks.items;
  counted : length l.disks.items + length l.rows.items ≡ length l.fn.disks.items;
  room : vec_capacity l.rows ≡ vec_capacity l.fn.rows;
  capacity : vec_capacity l.disks ≡ vec_capacity l.fn.disks;
}

abbrev pub decreases-loop-disk : goal.decreases-loop-disk
decreases-loop-disk g l = length l.disks.items
