-- The bytes as a list make the same call; it may write and owns its pages, and what is kept stands after it.
use Rattle.std.specs.Prelude.{◌≡◌, List, ◌∷◌, None}
use Rattle.std.proofs.Common.{ap, sym, subst, ◌∙◌}
use Rattle.cc_entry.specs.declared.call.Call.{Call}
use Rattle.cc_entry.specs.declared.call.Call.TheVariants as call
use Rattle.cc_content.specs.Contents.{ContentsStand}
use Rattle.cc_content.specs.Following.{truncated_by}
use Rattle.cc_content.specs.Owned.{OwnsChanged}
use Rattle.cc_model.specs.History.{Effect, history}
use Rattle.cc_stream.specs.Stream.{StreamStands}
use Rattle.cc_book.specs.Book.{BookState, book_of, MayDoOnBook, done}
use Rattle.cc_book.proofs.DoneSteps.{ends-below, is-writing, made-above, may-write, stands-done}
use Rattle.cc_book.proofs.OwnedSteps.{owns-changed}
use Rattle.cc_book.proofs.book.Book.write.Goals as goal

pub done-requires : goal.done-requires
done-requires c =
    let b : BookState = book_of c.self.inside.stream c.deref_mut-parts.result.now in
    let view : b ≡ c.args.self.now = ap (book_of c.self.inside.stream) c.deref_mut-parts.ensures.value ∙ c.self.view_is in
    let ends = ends-below b view c.requires.may.1 in
    record { zeroed = ends.0; written = ends.1 }

pub pinned_write-requires : goal.pinned_write-requires
pinned_write-requires c =
    let b : BookState = book_of c.self.inside.stream c.deref_mut-parts.result.now in
    let view : b ≡ c.args.self.now = ap (book_of c.self.inside.stream) c.deref_mut-parts.ensures.value ∙ c.self.view_is in
    let listed : c.deref.result.now ≡ c.args.bytes.now = c.deref.ensures.value ∙ c.in_ok-listed.ensures in
    let is : c.args.call.now ≡ call.PinnedWrite c.requires.is.0 c.args.at c.deref.result.now = rw listed c.requires.is.1 in
    let uncut : (h : List Effect) → StreamStands h b.state → None ≡ truncated_by h c.args.call.now = λ h stands. sym (ap (truncated_by h) is) in
    record {
      may = is-writing b view c.requires.is.0 c.args.at c.deref.result.now is c.requires.may.1;
      owned = subst (λ (k : Call). OwnsChanged b.contents k None) is (owns-changed b view None uncut c.requires.may.1 c.requires.owned);
    }

pub returns-clause-stands : goal.returns-clause-stands
returns-clause-stands c mapped u past given mapped_is =
    let pass = c.args.pass in
    let b : BookState = book_of c.self.inside.stream c.deref_mut-parts.result.now in
    let view : b ≡ c.args.self.now = ap (book_of c.self.inside.stream) c.deref_mut-parts.ensures.value ∙ c.self.view_is in
    let listed : c.deref.result.now ≡ c.args.bytes.now = c.deref.ensures.value ∙ c.in_ok-listed.ensures in
    let is : c.args.call.now ≡ call.PinnedWrite c.requires.is.0 c.args.at c.deref.result.now = rw listed c.requires.is.1 in
    let it = call.PinnedWrite c.requires.is.0 c.args.at c.deref.result.now in
    let may : MayDoOnBook u past pass c.args.call.now c.args.reply.now b = subst (λ (x : BookState). MayDoOnBook u past pass c.args.call.now c.args.reply.now x) (sym view) given in
    let writes : MayDoOnBook u past pass it c.args.reply.now b = subst (λ (k : Call). MayDoOnBook u past pass k c.args.reply.now b) is may in
    let told = c.pinned_write.ensures.stands u past pass _ b.stream c.requires.is.0 c.args.reply.now _ _ _ (may-write writes) in
    stands-done b view (book_of b.stream c.set.new.self) c.done.new.self c.pinned_write.new.self c.has_map-was_mapped.result (ap (book_of b.stream) c.set.ensures.same) c.set.ensures.state c.set.ensures.maps c.has_map-was_mapped.ensures.stands
    u past pass given
    (λ at holds. c.in_ok-done.ensures.stands (history past b.stream) c.args.reply.now holds (sym c.id_in.ensures) (made-above b view u past pass c.id_in.result at c.id_in.ensures))
    (subst (λ (k : Call). ContentsStand (u.opening b.stream) (history (done pass past b.stream k c.args.reply.now ∷ past) b.stream) c.pinned_write.new.self) (sym is) told)
