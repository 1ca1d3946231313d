use Rattle.std.proofs.Common.{◌≡◌, ℕ, ◌+◌}
use Rattle.cc_holds.specs.Blocks.{holds_at, AreBlockRows, one_within}
use Rattle.cc_holds.proofs.block_rows.release_all.Given as goal

abbrev pub invariant-loop-block : goal.invariant-loop-block
invariant-loop-block l = record {
  rows : AreBlockRows l.rows.items;
  released : (b : ℕ) → holds_at b l.initial.rows.items ≡ holds_at b l.rows.items + one_within l.first l.block b;
}
