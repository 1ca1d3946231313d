use Rattle.std.specs.Prelude.{◌≡◌, ◌∷◌}
use Rattle.std.proofs.Common.{ap, sym, subst, ◌∙◌}
use Rattle.cc_images.specs.Images.{ImagesStand}
use Rattle.cc_model.specs.History.{Did, history}
use Rattle.cc_book.specs.Book.{BookState, book_of, ImagesMayFollow}
use Rattle.cc_book.specs.declared.book.BookParts.{BookParts}
use Rattle.cc_book.proofs.ImageSteps.{images-opened}
use Rattle.cc_book.proofs.book.Book.follow_images.Goals as goal

pub returns-in-Some-clause-stands : goal.returns-in-Some-clause-stands
returns-in-Some-clause-stands c u past pass call reply given =
    let b : BookState = book_of c.self.inside.stream c.deref_mut.result.now in
    let view : b ≡ c.args.self.now = ap (book_of c.self.inside.stream) c.deref_mut.ensures.value ∙ c.self.view_is in
    let may : ImagesMayFollow u past pass call reply c.args.room c.args.was b = subst (λ (x : BookState). ImagesMayFollow u past pass call reply c.args.room c.args.was x) (sym view) given in
    let valid = c.valid-valid.ensures.same ∙ ap (λ (parts : BookParts). parts.contents.valid) (c.deref.ensures ∙ sym c.deref_mut.ensures.value) in
    subst (λ s. ImagesStand (Did pass call reply ∷ history past s) c.opened.new.self) (ap (λ x. x.stream) view)
    (images-opened u past pass call reply c.args.room c.in-Some.room c.args.was b c.opened.new.self c.in-Some.is may (rw valid at c.opened.ensures.stands))
