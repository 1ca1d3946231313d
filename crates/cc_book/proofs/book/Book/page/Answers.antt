use Rattle.cc_model.specs.History.{history}
use Rattle.cc_book.proofs.BookSteps.{parts-stand}
use Rattle.cc_book.proofs.book.Book.page.Goals as goal

pub returns-clause-resident : goal.returns-clause-resident
returns-clause-resident c opening past stands =
    let was = parts-stand opening past c.self.inside.stream c.deref.ensures c.self.view_is stands in
    c.get.ensures.resident opening (history past c.args.self.now.stream) was.contents_are

pub returns-clause-bytes : goal.returns-clause-bytes
returns-clause-bytes c opening past stands =
    let was = parts-stand opening past c.self.inside.stream c.deref.ensures c.self.view_is stands in
    c.get.ensures.bytes opening (history past c.args.self.now.stream) was.contents_are
