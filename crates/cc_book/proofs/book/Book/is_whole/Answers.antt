-- What is kept of the stream and of its holds stands for the history.
use Rattle.std.proofs.lemmas.Result.{IfOk-weaker}
use Rattle.cc_model.specs.History.{history}
use Rattle.cc_book.proofs.BookSteps.{parts-stand}
use Rattle.cc_book.proofs.book.Book.is_whole.Goals as goal

pub returns : goal.returns
returns c =
    IfOk-weaker c.is_whole.result _ _
    (λ whole given opening past stands.
    let was = parts-stand opening past c.self.inside.stream c.deref-parts.ensures c.self.view_is stands in
    given (history past c.args.self.now.stream) was.state_is was.holds_are)
    c.is_whole.ensures
