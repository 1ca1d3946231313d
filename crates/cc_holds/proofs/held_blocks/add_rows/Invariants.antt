use Rattle.std.proofs.Common.{◌≡◌, ◌++◌, map, take}
use Rattle.cc_holds.proofs.held_blocks.add_rows.Given as goal

abbrev pub invariant-loop-row : goal.invariant-loop-row
invariant-loop-row l = l.blocks.items ≡ l.initial.blocks.items ++ map (λ row. row.block) (take l.row-index l.rows)
