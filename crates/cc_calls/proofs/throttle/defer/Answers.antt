-- The turn of the book around the deferral.
use Rattle.std.specs.Prelude.{ℕ}
use Rattle.std.proofs.Common.{subst, sym, ◌∙◌}
use Rattle.cc_writes.specs.Hands.{HasBook}
use Rattle.cc_calls.specs.Answers.{CanCall}
use Rattle.cc_calls.proofs.Turning.{has-book}
use Rattle.cc_calls.proofs.Throttling.{deferred-turn}
use Rattle.cc_calls.proofs.throttle.defer.Goals as goal

pub defer_at-answer-requires-clause-book : goal.defer_at-answer-requires-clause-book
defer_at-answer-requires-clause-book g c =
    subst (λ (n : ℕ). HasBook (g.T.Turns.standing c.take_book-book.new.self) n c.take_book-book.result) (c.take_book-book.ensures.stream ∙ c.stream.ensures)
    (has-book (g.T.Turns.standing c.args.turns.now) (g.T.Turns.standing c.take_book-book.new.self) c.stream.result c.take_book-book.result
    c.take_book-book.ensures.took c.take_book-book.ensures.stream
    (subst (λ (n : ℕ). CanCall (g.T.Turns.standing c.args.turns.now) n) (sym c.stream.ensures) c.requires.can) c.take_book-book.ensures.stands)

pub give_book-requires-clause-stands : goal.give_book-requires-clause-stands
give_book-requires-clause-stands g c = rw c.stream-2.ensures c.defer_at-answer.ensures.book.stands

pub returns-clause-ends : goal.returns-clause-ends
returns-clause-ends g c =
    deferred-turn (g.T.Turns.standing c.args.turns.now) (g.T.Turns.standing c.take_book-book.new.self) (g.T.Turns.standing c.defer_at-answer.new.turns) (g.T.Turns.standing c.give_book.new.self)
    c.args.file c.args.bytes c.args.retrying _ c.requires.can (rw c.stream.ensures at c.take_book-book.ensures.took) c.defer_at-answer.ensures.ends c.give_book.ensures
