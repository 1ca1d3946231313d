-- The turn of the book around the call.
use Rattle.std.specs.Prelude.{ℕ}
use Rattle.std.proofs.Common.{subst, sym, ◌∙◌}
use Rattle.cc_entry.specs.declared.call.Call.TheVariants as call
use Rattle.cc_writes.specs.Hands.{HasBook}
use Rattle.cc_calls.specs.Ahead.{ahead_outcome}
use Rattle.cc_calls.specs.Answers.{CanCall}
use Rattle.cc_calls.proofs.AskedAhead.{turned-ends, turned-good}
use Rattle.cc_calls.proofs.Turning.{has-book}
use Rattle.cc_calls.proofs.ahead.schedule_read_ahead.Goals as goal

pub ask_at-asked-requires-clause-book : goal.ask_at-asked-requires-clause-book
ask_at-asked-requires-clause-book g c =
    has-book (g.T.Turns.standing c.args.turns.now) (g.T.Turns.standing c.take_book-book.new.self) c.stream.result c.take_book-book.result
    c.take_book-book.ensures.took c.take_book-book.ensures.stream
    (subst (λ (n : ℕ). CanCall (g.T.Turns.standing c.args.turns.now) n) (sym c.stream.ensures) c.requires.can) c.take_book-book.ensures.stands

pub returns-clause-ends : goal.returns-clause-ends
returns-clause-ends g c =
    turned-ends ahead_outcome (g.T.Turns.standing c.args.turns.now) (g.T.Turns.standing c.take_book-book.new.self) (g.T.Turns.standing c.ask_at-asked.new.turns) (g.T.Turns.standing c.give_book.new.self)
    c.args.file.stream (call.AskAhead c.args.file c.args.at c.args.len) _ c.requires.can (rw c.stream.ensures at c.take_book-book.ensures.took) c.ask_at-asked.ensures.ends c.give_book.ensures

pub returns-clause-good : goal.returns-clause-good
returns-clause-good g c =
    turned-good ahead_outcome (g.T.Turns.standing c.args.turns.now) (g.T.Turns.standing c.take_book-book.new.self) (g.T.Turns.standing c.ask_at-asked.new.turns) (g.T.Turns.standing c.give_book.new.self)
    c.args.file.stream (call.AskAhead c.args.file c.args.at c.args.len) _ c.requires.can (rw c.stream.ensures at c.take_book-book.ensures.took) c.ask_at-asked.ensures.ends c.give_book.ensures
