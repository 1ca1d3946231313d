use Rattle.std.proofs.Common.{◌≡◌, ℕ, ◌+◌, ◌-◌, ◌≤◌}
use Rattle.std.specs.Prelude.{vec_len, vec_capacity}
use Rattle.cc_holds.specs.Blocks.{holds_at, AreBlockRows, one_within}
use Rattle.cc_holds.proofs.block_rows.note_all.Given as goal

abbrev pub invariant-loop-block : goal.invariant-loop-block
invariant-loop-block l = record {
  rows : AreBlockRows l.rows.items;
  room : vec_len l.rows + (l.end - l.block) ≤ vec_capacity l.rows;
  noted : (b : ℕ) → holds_at b l.rows.items ≡ holds_at b l.initial.rows.items + one_within l.first l.block b;
}
