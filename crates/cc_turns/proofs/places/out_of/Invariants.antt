use Rattle.std.proofs.Common.{◌≡◌, ◌+◌, ◌≤◌, Some, ◌++◌, length, map, reverse}
use Rattle.std.specs.Prelude.{vec_capacity}
use Rattle.cc_turns.proofs.places.out_of.Given as goal

abbrev pub invariant-loop-item : goal.invariant-loop-item
invariant-loop-item g l = record {
  moved : l.places.items ++ map (λ a. Some a) (reverse l.row.items) ≡ map (λ a. Some a) l.fn.row.items;
  room : length l.row.items + length l.places.items ≤ vec_capacity l.places;
  capacity : vec_capacity l.row ≡ vec_capacity l.fn.row;
}

abbrev pub decreases-loop-item : goal.decreases-loop-item
decreases-loop-item g l = goal.left-loop-item g l
