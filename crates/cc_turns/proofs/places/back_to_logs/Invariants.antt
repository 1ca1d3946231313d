use Rattle.std.proofs.Common.{◌≡◌, ◌+◌, ◌≤◌, true, Some, ◌++◌, length, map, reverse}
use Rattle.std.specs.Prelude.{is_some, vec_capacity}
use Rattle.std.specs.List.{list_all}
use Rattle.std.specs.Option.{option_map}
use Rattle.cc_log.specs.Turn.{LogTurnState}
use Rattle.cc_turns.proofs.places.back_to_logs.Given as goal

abbrev pub invariant-loop-place : goal.invariant-loop-place
invariant-loop-place g l = record {
  home : list_all is_some l.places.items ≡ true;
  moved : map (option_map (λ (log : LogTurnState g.row.L.Denot). log.file)) l.places.items ++ map (λ a. Some a) (reverse l.row.items)
      ≡ map (option_map (λ (log : LogTurnState g.row.L.Denot). log.file)) l.fn.places.items;
  room : length l.places.items + length l.row.items ≤ vec_capacity l.row;
}

abbrev pub decreases-loop-place : goal.decreases-loop-place
decreases-loop-place g l = goal.left-loop-place g l
