use Rattle.std.proofs.Common.{◌≡◌, ◌++◌, ◌≤◌, length, reverse}
use Rattle.std.specs.Prelude.{vec_capacity}
use Rattle.cc_run.proofs.row.first_of.Given as goal

abbrev pub invariant-loop : goal.invariant-loop
invariant-loop g l = record {
  moved : l.first.items ++ reverse l.row.items ≡ l.fn.row.items;
  first : length l.first.items ≡ l.counter;
  room : l.count ≤ vec_capacity l.first;
  capacity : vec_capacity l.row ≡ vec_capacity l.fn.row;
}
