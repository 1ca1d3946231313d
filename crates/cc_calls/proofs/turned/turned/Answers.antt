use Rattle.cc_calls.proofs.Turning.{filed-now, has-book, turn-full, turn-left}
use Rattle.cc_calls.proofs.turned.turned.Goals as goal

pub attempt_at-course-requires-clause-book : goal.attempt_at-course-requires-clause-book
attempt_at-course-requires-clause-book g c =
    has-book (g.T.Turns.standing c.args.turns.now) (g.T.Turns.standing c.take_book-book.new.self) c.args.stream c.take_book-book.result
    c.take_book-book.ensures.took c.take_book-book.ensures.stream c.requires.can c.take_book-book.ensures.stands

pub attempt_at-course-requires-clause-filed : goal.attempt_at-course-requires-clause-filed
attempt_at-course-requires-clause-filed g c =
    filed-now (g.T.Turns.standing c.args.turns.now) (g.T.Turns.standing c.take_book-book.new.self) c.args.stream c.take_book-book.result
    c.take_book-book.ensures.took c.take_book-book.ensures.stream c.args.call c.requires.filed

pub returns-clause-left : goal.returns-clause-left
returns-clause-left g c begun way =
    turn-left (g.T.Turns.standing c.args.turns.now) (g.T.Turns.standing c.take_book-book.new.self) c.args.stream c.take_book-book.result
    c.take_book-book.ensures.took c.take_book-book.ensures.stream
    (g.T.Turns.standing c.attempt_at-course.new.turns) (g.T.Turns.standing c.give_book.new.self) c.args.call c.attempt_at-course.result begun c.args.out.now c.attempt_at-course.new.out
    c.give_book.ensures (c.attempt_at-course.ensures.left begun) way

pub returns-clause-full : goal.returns-clause-full
returns-clause-full g c =
    turn-full (g.T.Turns.standing c.args.turns.now) (g.T.Turns.standing c.take_book-book.new.self) c.args.stream c.take_book-book.result
    c.take_book-book.ensures.took c.take_book-book.ensures.stream
    (g.T.Turns.standing c.attempt_at-course.new.turns) (g.T.Turns.standing c.give_book.new.self) c.args.call c.attempt_at-course.result
    c.give_book.ensures c.attempt_at-course.ensures.full
