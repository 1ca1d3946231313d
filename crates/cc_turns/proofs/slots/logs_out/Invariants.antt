use Rattle.std.proofs.Common.{◌≡◌, ◌+◌, ◌≤◌, true, ◌++◌, length, map, reverse}
use Rattle.std.specs.Prelude.{is_some, vec_capacity}
use Rattle.std.specs.List.{list_all}
use Rattle.std.specs.Option.{option_map}
use Rattle.cc_turns.proofs.SlotSteps.{log}
use Rattle.cc_turns.proofs.slots.logs_out.Given as goal

abbrev pub invariant-loop-item : goal.invariant-loop-item
invariant-loop-item g l = record {
  moved : l.slots.items ++ map (option_map (log {D = g.row.D.Denot} {L = g.row.L.Denot} {Q = g.row.Q.Denot})) (reverse l.row.items) ≡ l.fn.slots.items ++ map (option_map (log {D = g.row.D.Denot} {L = g.row.L.Denot} {Q = g.row.Q.Denot})) l.fn.row.items;
  home : list_all is_some l.row.items ≡ true;
  room : length l.slots.items + length l.row.items ≤ vec_capacity l.slots;
  capacity : vec_capacity l.slots ≡ vec_capacity l.fn.slots;
  emptied : vec_capacity l.row ≡ vec_capacity l.fn.row;
}

abbrev pub decreases-loop-item : goal.decreases-loop-item
decreases-loop-item g l = goal.left-loop-item g l
