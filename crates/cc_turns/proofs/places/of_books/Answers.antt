-- One book more is home at its number, of an empty history.
use Rattle.std.proofs.Common.{◌≡◌, ◌+◌, None, [], refl, subst, ◌∙◌, arith}
use Rattle.std.specs.Prelude.{IfSome}
use Rattle.cc_turns.specs.Places.{AreHome}
use Rattle.cc_turns.specs.Desk.{BookIsHome}
use Rattle.cc_turns.proofs.RowSteps.{none_home, pushed_home}
use Rattle.cc_turns.proofs.Fresh.{history_none}
use Rattle.cc_turns.proofs.places.of_books.Goals as goal

pub loop-number-init : goal.loop-number-init
loop-number-init c = record {
  home = λ opening. none_home (BookIsHome opening []) c.in_ok-places.places.items c.in_ok-places.ensures.items;
  room = omega (arith, c.in_ok-places.ensures.capacity, c.from.ensures);
}

pub push_reserved-requires : goal.push_reserved-requires
push_reserved-requires c =
    omega (arith, (c.loop-number.invariant.home (λ s. None)).counted, c.loop-number.places.ok.0, c.loop-number-test.true, c.loop-number.invariant.room)

pub loop-number-preserved : goal.loop-number-preserved
loop-number-preserved c = record {
  home = λ opening. rw c.push_reserved.ensures.items (pushed_home c.loop-number.number (c.loop-number.number + 1) c.loop-number.places.items c.in_ok-book.book refl
      (record {
        stream_is = c.in_ok-book.ensures.stream ∙ subst (λ o. IfSome o (λ stream. stream ≡ c.loop-number.number)) c.unwrap-stream.ensures c.new.ensures.number;
        stands = c.in_ok-book.ensures.stands (opening c.loop-number.number) [] (history_none _);
      }) (c.loop-number.invariant.home opening));
  room = rw c.push_reserved.ensures.capacity c.loop-number.invariant.room;
}

pub returns : goal.returns
returns c = λ opening.
    subst (λ n. AreHome n None (BookIsHome opening []) c.loop-number.places.items)
    (omega (arith, c.loop-number.auto.number-end, c.loop-number-test.false)) (c.loop-number.invariant.home opening)
