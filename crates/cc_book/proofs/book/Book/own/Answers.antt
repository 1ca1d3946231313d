use Rattle.std.specs.Prelude.{◌≡◌}
use Rattle.std.proofs.Common.{ap, subst, ◌∙◌}
use Rattle.cc_book.specs.Book.{BookState, StandsAsBefore, book_of}
use Rattle.cc_book.proofs.OwnedSteps.{StandsAsBefore-contents, followable}
use Rattle.cc_book.proofs.book.Book.own.Goals as goal

pub own-requires : goal.own-requires
own-requires c =
    let b : BookState = book_of c.self.inside.stream c.deref_mut-parts.result.now in
    let view : b ≡ c.args.self.now = ap (book_of c.self.inside.stream) c.deref_mut-parts.ensures.value ∙ c.self.view_is in
    record { may = followable b view c.truncation_by-truncation.result c.truncation_by-truncation.ensures c.requires.may.1.1 }

pub returns-clause-stands : goal.returns-clause-stands
returns-clause-stands c =
    let b : BookState = book_of c.self.inside.stream c.deref_mut-parts.result.now in
    let view : b ≡ c.args.self.now = ap (book_of c.self.inside.stream) c.deref_mut-parts.ensures.value ∙ c.self.view_is in
    subst (λ (x : BookState). StandsAsBefore x (record b { contents = c.own.new.self })) view (StandsAsBefore-contents b c.own.new.self c.own.ensures.same)
