-- One book more is at its number, of an empty history.
use Rattle.std.proofs.Common.{◌≡◌, ◌+◌, [], refl, subst, ◌∙◌, arith}
use Rattle.std.specs.Prelude.{IfSome}
use Rattle.cc_turns.proofs.Fresh.{history_none}
use Rattle.cc_world.specs.World.{AreAt, IsNewBook}
use Rattle.cc_world.proofs.Emptying.{none-at, pushed-at}
use Rattle.cc_world.proofs.places.books_of.Goals as goal

pub loop-number-init : goal.loop-number-init
loop-number-init c = record {
  books = none-at IsNewBook c.in_ok-books.books.items c.in_ok-books.ensures.items;
  room = omega (arith, c.in_ok-books.ensures.capacity, c.from.ensures);
}

pub push_reserved-requires : goal.push_reserved-requires
push_reserved-requires c =
    omega (arith, c.loop-number.invariant.books.counted, c.loop-number.books.ok.0, c.loop-number-test.true, c.loop-number.invariant.room)

pub loop-number-preserved : goal.loop-number-preserved
loop-number-preserved c = record {
  books = rw c.push_reserved.ensures.items (pushed-at c.loop-number.number (c.loop-number.number + 1) c.loop-number.books.items c.in_ok-book.book refl
      (record {
        stream = c.in_ok-book.ensures.stream ∙ subst (λ o. IfSome o (λ stream. stream ≡ c.loop-number.number)) c.unwrap-stream.ensures c.new.ensures.number;
        stands = λ opening. c.in_ok-book.ensures.stands opening [] (history_none _);
      }) c.loop-number.invariant.books);
  room = rw c.push_reserved.ensures.capacity c.loop-number.invariant.room;
}

pub returns : goal.returns
returns c =
    subst (λ n. AreAt n IsNewBook c.loop-number.books.items)
    (omega (arith, c.loop-number.auto.number-end, c.loop-number-test.false)) c.loop-number.invariant.books
