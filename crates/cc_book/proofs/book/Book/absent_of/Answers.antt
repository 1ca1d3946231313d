-- The contents find the least page up to the end as the size cuts it; that is the first of the cut range's pages.
use Rattle.std.specs.Prelude.{◌≡◌, ◌+◌, not, min, refl}
use Rattle.std.specs.List.{find}
use Rattle.std.proofs.Common.{ap, sym, ◌∙◌, subst}
use Rattle.cc_entry.specs.Pages.{pages_of}
use Rattle.cc_model.specs.History.{history}
use Rattle.cc_model.specs.Ranges.{cut_range}
use Rattle.cc_model.specs.Residency.{is_resident}
use Rattle.cc_model.specs.Touches.{size_of}
use Rattle.cc_book.specs.Book.{BookState, book_of, BookStands}
use Rattle.cc_book.proofs.book.Book.absent_of.Goals as goal

pub returns : goal.returns
returns c opening past stands =
    let b : BookState = book_of c.self.inside.stream c.deref-parts.result.now in
    let view : b ≡ c.args.self.now = ap (book_of c.self.inside.stream) c.deref-parts.ensures ∙ c.self.view_is in
    let was : BookStands opening past b = subst (λ (x : BookState). BookStands opening past x) (sym view) stands in
    let stream : b.stream ≡ c.args.self.now.stream = ap (λ x. x.stream) view in
    let found = c.first_absent.ensures opening (history past b.stream) was.contents_are in
    let size = c.size.ensures.stands (history past b.stream) was.state_is in
    let to : c.min-to.result ≡ min (c.args.at + c.args.len) (size_of (history past b.stream)) = c.min-to.ensures ∙ rw (c.from.ensures, c.from-2.ensures, c.from-3.ensures, size) refl in
    subst (λ s. c.first_absent.result ≡ find (λ p. not (is_resident (history past s) p)) (pages_of (cut_range (size_of (history past s)) c.args.at c.args.len))) stream
    (found ∙ rw to refl)
