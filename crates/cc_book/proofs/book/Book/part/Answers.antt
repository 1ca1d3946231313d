use Rattle.std.specs.Prelude.{◌+◌, ◌%◌}
use Rattle.std.proofs.Common.{arith, ◌∙◌}
use Rattle.cc_model.specs.History.{history}
use Rattle.cc_book.proofs.ReadSteps.{part-found}
use Rattle.cc_book.proofs.book.Book.part.Goals as goal

pub returns-clause-bytes : goal.returns-clause-bytes
returns-clause-bytes c = λ opening past stands resident.
    part-found opening (history past c.args.self.now.stream) c.args.at (c.args.at % 4096) (c.args.at % 4096 + c.min.result) c.page.result _ c.unwrap_or-frame.result
    (omega arith) (omega arith) (c.page.ensures.resident opening past stands ∙ resident) c.unwrap_or-frame.ensures (c.page.ensures.bytes opening past stands)
