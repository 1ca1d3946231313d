use Rattle.cc_model.specs.History.{history}
use Rattle.cc_book.proofs.BookSteps.{parts-stand}
use Rattle.cc_book.proofs.book.Book.has_map.Goals as goal

pub returns : goal.returns
returns c opening past stands =
    let was = parts-stand opening past c.self.inside.stream c.deref.ensures c.self.view_is stands in
    c.has_map.ensures.stands opening (history past c.args.self.now.stream) was.contents_are
