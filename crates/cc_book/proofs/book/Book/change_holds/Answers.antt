-- The two ends that a call may write lie below 2^64, and its pages are owned; holds and contents follow it together.
use Rattle.std.specs.Prelude.{◌≡◌}
use Rattle.std.proofs.Common.{sym, ap, ◌∙◌}
use Rattle.cc_model.specs.History.{history}
use Rattle.cc_book.specs.Book.{BookState, book_of}
use Rattle.cc_book.proofs.DoneSteps.{ends-below, is-following, made-above, may-follow, stands-done}
use Rattle.cc_book.proofs.OwnedSteps.{owns-changed}
use Rattle.cc_book.proofs.book.Book.change_holds.Goals as goal

pub done-requires : goal.done-requires
done-requires c =
    let b : BookState = book_of c.self.inside.stream c.deref_mut-parts.result.now in
    let view : b ≡ c.args.self.now = ap (book_of c.self.inside.stream) c.deref_mut-parts.ensures.value ∙ c.self.view_is in
    let ends = ends-below b view c.requires.may in
    record { zeroed = ends.0; written = ends.1 }

pub done-requires-2 : goal.done-requires-2
done-requires-2 c =
    let b : BookState = book_of c.self.inside.stream c.deref_mut-parts.result.now in
    let view : b ≡ c.args.self.now = ap (book_of c.self.inside.stream) c.deref_mut-parts.ensures.value ∙ c.self.view_is in
    record {
      may = is-following b view c.size-size.result c.truncation_by-truncation.result c.size-size.ensures.stands c.truncation_by-truncation.ensures c.requires.may;
      owned = owns-changed b view c.truncation_by-truncation.result c.truncation_by-truncation.ensures c.requires.may c.requires.owned;
    }

pub returns-clause-stands : goal.returns-clause-stands
returns-clause-stands c u past given mapped_is =
    let pass = c.args.pass in
    let b : BookState = book_of c.self.inside.stream c.deref_mut-parts.result.now in
    let view : b ≡ c.args.self.now = ap (book_of c.self.inside.stream) c.deref_mut-parts.ensures.value ∙ c.self.view_is in
    stands-done b view (book_of b.stream c.set.new.self) c.done.new.self c.done-2.new.self c.has_map-was_mapped.result (ap (book_of b.stream) c.set.ensures.same) c.set.ensures.state c.set.ensures.maps c.has_map-was_mapped.ensures.stands
    u past pass given
    (λ may holds. c.in_ok-done.ensures.stands (history past b.stream) c.args.reply.now holds (sym c.id_in.ensures) (made-above b view u past pass c.id_in.result may c.id_in.ensures))
    (c.in-Ok.ensures.stands u past pass _ b.stream (may-follow b view c.size-size.result c.truncation_by-truncation.result c.size-size.ensures.stands c.truncation_by-truncation.ensures u past pass given mapped_is))
