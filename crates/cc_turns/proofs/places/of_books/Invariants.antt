use Rattle.std.proofs.Common.{◌≤◌, ℕ, None, List, []}
use Rattle.std.specs.Prelude.{vec_capacity}
use Rattle.std.specs.Prelude.{Option}
use Rattle.cc_turns.specs.Places.{AreHome}
use Rattle.cc_turns.specs.Desk.{BookIsHome}
use Rattle.cc_turns.proofs.places.of_books.Given as goal

abbrev pub invariant-loop-number : goal.invariant-loop-number
invariant-loop-number l = record {
  home : (opening : ℕ → Option (ℕ → List ℕ)) → AreHome l.number None (BookIsHome opening []) l.places.items;
  room : l.fn.streams ≤ vec_capacity l.places;
}
