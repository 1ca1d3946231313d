use Rattle.std.specs.Prelude.{ℕ, List}
use Rattle.std.proofs.Common.{ap, ◌∙◌}
use Rattle.cc_entry.specs.Pages.{blocks_of}
use Rattle.cc_model.specs.History.{history}
use Rattle.cc_model.specs.Holds.{holds_of, held_blocks}
use Rattle.cc_model.specs.Residency.{order_of_use}
use Rattle.cc_views.specs.Views.{first_not_in}
use Rattle.cc_book.proofs.BlocksToGo.{first-of_neither}
use Rattle.cc_book.proofs.BookSteps.{parts-stand}
use Rattle.cc_book.proofs.book.Book.block_to_go.Goals as goal

pub returns : goal.returns
returns c opening past stands =
    let h = history past c.args.self.now.stream in
    let was = parts-stand opening past c.self.inside.stream c.deref-parts.ensures c.self.view_is stands in
    c.oldest_of.ensures opening h was.contents_are
    ∙ (ap (λ (kept : List ℕ). first_not_in kept (order_of_use h)) c.deref.ensures.value
    ∙ first-of_neither c.in_ok-kept.kept.items (held_blocks (holds_of h)) (blocks_of c.args.span) (order_of_use h) (c.in_ok-kept.ensures.same h was.holds_are))
