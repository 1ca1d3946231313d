use Rattle.cc_calls.proofs.LevelCalls.{levels-end}
use Rattle.cc_calls.proofs.levels.index_levels.Goals as goal

pub returns : goal.returns
returns g c = record {
  ends =
      levels-end (g.T.Turns.standing c.args.turns.now) (g.T.Turns.standing c.take_book-book.new.self) (g.T.Turns.standing c.give_book.new.self) c.args.file c.take_book-book.result c.levels_kept-answer.result
      c.requires.can (rw c.stream.ensures at c.take_book-book.ensures.took) (rw c.stream.ensures at c.take_book-book.ensures.stands) c.levels_kept-answer.ensures.kept c.give_book.ensures;
}
