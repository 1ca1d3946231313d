use Rattle.std.proofs.Common.{◌≡◌, ◌+◌, None, [], length, reverse, drop}
use Rattle.std.specs.Prelude.{vec_capacity}
use Rattle.cc_turns.specs.Places.{AreHome}
use Rattle.cc_turns.specs.Desk.{LogIsHome}
use Rattle.cc_turns.proofs.places.of_logs.Given as goal

abbrev pub invariant-loop-file : goal.invariant-loop-file
invariant-loop-file g l = record {
  home : AreHome (length l.places.items) None (LogIsHome g.L.LogFile.told g.L.LogFile.faults l.fn.row.items []) l.places.items;
  left : reverse l.row.items ≡ drop (length l.places.items) l.fn.row.items;
  counted : length l.row.items + length l.places.items ≡ length l.fn.row.items;
  room : vec_capacity l.places ≡ vec_capacity l.fn.places;
  capacity : vec_capacity l.row ≡ vec_capacity l.fn.row;
}

abbrev pub decreases-loop-file : goal.decreases-loop-file
decreases-loop-file g l = goal.left-loop-file g l
