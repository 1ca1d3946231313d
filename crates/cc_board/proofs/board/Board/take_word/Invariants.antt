use Rattle.std.proofs.Common.{◌≡◌}
use Rattle.cc_board.proofs.board.Board.take_word.Given as goal

-- the seat is as it was
abbrev pub invariant-loop : goal.invariant-loop
invariant-loop g l = record {
  table : l.seat.table_id ≡ l.fn.seat.table_id;
  id : l.seat.id ≡ l.fn.seat.id;
  same : l.seat.me ≡ l.fn.seat.me;
}
