use Rattle.cc_model.specs.History.{history}
use Rattle.cc_book.proofs.BookSteps.{parts-stand}
use Rattle.cc_book.proofs.book.Book.ahead_of.Goals as goal

pub returns : goal.returns
returns c opening past stands =
    let h = history past c.args.self.now.stream in
    let was = parts-stand opening past c.self.inside.stream c.deref-parts.ensures c.self.view_is stands in
    c.ahead_of.ensures.stands h was.maps_are (c.has_no_read_ahead-no_read_ahead.ensures.stands h was.state_is) (c.size.ensures.stands h was.state_is)
