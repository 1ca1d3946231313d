-- The levels are those that the contents tell, which stand for the stream's history.
use Rattle.cc_model.specs.History.{history}
use Rattle.cc_book.proofs.BookSteps.{parts-stand}
use Rattle.cc_book.proofs.book.Book.levels.Goals as goal

pub returns-clause-mapped : goal.returns-clause-mapped
returns-clause-mapped c opening past stands =
    let was = parts-stand opening past c.self.inside.stream c.deref.ensures c.self.view_is stands in
    c.levels.ensures.mapped opening (history past c.args.self.now.stream) was.contents_are

pub returns-clause-of_size : goal.returns-clause-of_size
returns-clause-of_size c opening past stands =
    let was = parts-stand opening past c.self.inside.stream c.deref.ensures c.self.view_is stands in
    c.levels.ensures.of_size opening (history past c.args.self.now.stream) was.contents_are
