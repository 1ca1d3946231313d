use Rattle.std.specs.Prelude.{◌≤◌, vec_capacity}
use Rattle.cc_world.specs.World.{AreAt, IsNewBook}
use Rattle.cc_world.proofs.places.books_of.Given as goal

abbrev pub invariant-loop-number : goal.invariant-loop-number
invariant-loop-number l = record {
  books : AreAt l.number IsNewBook l.books.items;
  room : l.fn.streams ≤ vec_capacity l.books;
}
