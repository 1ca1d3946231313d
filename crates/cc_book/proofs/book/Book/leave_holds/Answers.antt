-- What the call may do and owns is handed to the contents; the holds stand as they are, since it changes none.
use Rattle.std.specs.Prelude.{◌≡◌}
use Rattle.std.proofs.Common.{ap, ◌∙◌}
use Rattle.cc_model.specs.History.{Did, history}
use Rattle.cc_holds.proofs.HoldsStanding.{stands-other as holds-other}
use Rattle.cc_book.specs.Book.{BookState, book_of}
use Rattle.cc_book.proofs.DoneSteps.{is-following, may-follow, stands-done}
use Rattle.cc_book.proofs.OwnedSteps.{owns-changed}
use Rattle.cc_book.proofs.book.Book.leave_holds.Goals as goal

pub done-requires : goal.done-requires
done-requires c =
    let b : BookState = book_of c.self.inside.stream c.deref_mut-parts.result.now in
    let view : b ≡ c.args.self.now = ap (book_of c.self.inside.stream) c.deref_mut-parts.ensures.value ∙ c.self.view_is in
    record {
      may = is-following b view c.size-size.result c.truncation_by-truncation.result c.size-size.ensures.stands c.truncation_by-truncation.ensures c.requires.may;
      owned = owns-changed b view c.truncation_by-truncation.result c.truncation_by-truncation.ensures c.requires.may c.requires.owned;
    }

pub returns-clause-stands : goal.returns-clause-stands
returns-clause-stands c pass u past given mapped_is =
    let b : BookState = book_of c.self.inside.stream c.deref_mut-parts.result.now in
    let view : b ≡ c.args.self.now = ap (book_of c.self.inside.stream) c.deref_mut-parts.ensures.value ∙ c.self.view_is in
    stands-done b view (book_of b.stream c.set.new.self) b.holds c.done.new.self c.has_map-was_mapped.result (ap (book_of b.stream) c.set.ensures.same) c.set.ensures.state c.set.ensures.maps c.has_map-was_mapped.ensures.stands
    u past pass given
    (λ may holds. holds-other (Did pass c.args.call.now c.args.reply.now) (history past b.stream) b.holds c.requires.holds holds)
    (c.in_ok-done.ensures.stands u past pass _ b.stream (may-follow b view c.size-size.result c.truncation_by-truncation.result c.size-size.ensures.stands c.truncation_by-truncation.ensures u past pass given mapped_is))
