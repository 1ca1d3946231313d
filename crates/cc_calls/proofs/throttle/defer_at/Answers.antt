-- The journal with the deferral may be given, since the book of its stream is in hand.
use Rattle.std.proofs.Common.{sym, arith}
use Rattle.cc_writes.proofs.Visiting.{few-left}
use Rattle.cc_calls.proofs.Throttling.{book-deferred, book-there, gives-deferred, whole-deferred}
use Rattle.cc_calls.proofs.throttle.defer_at.Goals as goal

pub defer_in-answer-requires-clause-stream : goal.defer_in-answer-requires-clause-stream
defer_in-answer-requires-clause-stream g c = sym c.requires.book.stream

pub defer_in-answer-requires-clause-book : goal.defer_in-answer-requires-clause-book
defer_in-answer-requires-clause-book g c =
    book-there g.T.Post.PostRoutine.posted (g.T.Turns.standing c.args.turns.now) (g.T.Turns.standing c.take_journal-journal.new.self) c.args.file.stream c.args.book.now
    c.take_journal-journal.result c.requires.book c.take_journal-journal.ensures.took c.take_journal-journal.ensures.stands

pub give_journal-requires-clause-adds : goal.give_journal-requires-clause-adds
give_journal-requires-clause-adds g c =
    (gives-deferred g.T.Post.PostRoutine.posted (g.T.Turns.standing c.args.turns.now) (g.T.Turns.standing c.take_journal-journal.new.self)
    c.take_journal-journal.result c.defer_in-answer.new.journal c.take_journal-journal.ensures.took c.take_journal-journal.ensures.stands c.defer_in-answer.ensures.waiting
    c.args.file c.args.bytes c.args.retrying c.me-pass.result _ (c.args.book.now, c.requires.book) c.me-pass.ensures c.defer_in-answer.ensures.left).adds

pub give_journal-requires-clause-stands : goal.give_journal-requires-clause-stands
give_journal-requires-clause-stands g c =
    (gives-deferred g.T.Post.PostRoutine.posted (g.T.Turns.standing c.args.turns.now) (g.T.Turns.standing c.take_journal-journal.new.self)
    c.take_journal-journal.result c.defer_in-answer.new.journal c.take_journal-journal.ensures.took c.take_journal-journal.ensures.stands c.defer_in-answer.ensures.waiting
    c.args.file c.args.bytes c.args.retrying c.me-pass.result _ (c.args.book.now, c.requires.book) c.me-pass.ensures c.defer_in-answer.ensures.left).journal

pub give_journal-requires-clause-few : goal.give_journal-requires-clause-few
give_journal-requires-clause-few g c =
    few-left (g.T.Turns.standing c.args.turns.now).in_flight
    (gives-deferred g.T.Post.PostRoutine.posted (g.T.Turns.standing c.args.turns.now) (g.T.Turns.standing c.take_journal-journal.new.self)
    c.take_journal-journal.result c.defer_in-answer.new.journal c.take_journal-journal.ensures.took c.take_journal-journal.ensures.stands c.defer_in-answer.ensures.waiting
    c.args.file c.args.bytes c.args.retrying c.me-pass.result _ (c.args.book.now, c.requires.book) c.me-pass.ensures c.defer_in-answer.ensures.left).went
    (omega (arith, c.requires.none))

pub returns : goal.returns
returns g c = record {
  book =
      book-deferred g.T.Post.PostRoutine.posted (g.T.Turns.standing c.args.turns.now) (g.T.Turns.standing c.take_journal-journal.new.self)
      c.take_journal-journal.result c.defer_in-answer.new.journal c.take_journal-journal.ensures.took c.take_journal-journal.ensures.stands c.defer_in-answer.ensures.waiting
      c.args.file c.args.bytes c.args.retrying c.me-pass.result _ (c.args.book.now, c.requires.book) c.me-pass.ensures c.defer_in-answer.ensures.left
      (g.T.Turns.standing c.give_journal.new.self) c.give_journal.ensures;
  ends =
      whole-deferred g.T.Post.PostRoutine.posted (g.T.Turns.standing c.args.turns.now) (g.T.Turns.standing c.take_journal-journal.new.self)
      c.take_journal-journal.result c.defer_in-answer.new.journal c.take_journal-journal.ensures.took c.take_journal-journal.ensures.stands c.defer_in-answer.ensures.waiting
      c.args.file c.args.bytes c.args.retrying c.me-pass.result _ (c.args.book.now, c.requires.book) c.me-pass.ensures c.defer_in-answer.ensures.left
      (g.T.Turns.standing c.give_journal.new.self) c.give_journal.ensures;
  back = c.defer_in-answer.ensures.back;
}
