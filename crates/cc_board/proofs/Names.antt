-- The name of a board says which it is.
use Rattle.std.specs.Prelude.{◌≡◌, drop}
use Rattle.std.proofs.Common.{get_or}
use Rattle.atomic_table.specs.Seated.{TableId}
use Rattle.cc_board.specs.View.{board_name}

-- two boards of one name are one
pub same_board : (a b : TableId) → board_name a ≡ board_name b → a ≡ b
same_board a b e = λ i. record {
  words = get_or (e i) 0 0;
  slots = get_or (e i) 1 0;
  views_name = get_or (e i) 2 0;
  atom = get_or (e i) 3 0;
  block = get_or (e i) 4 0;
  offset = get_or (e i) 5 0;
  slot_names = drop 6 (e i);
}
