-- Room for the end leaves what the book means; the store may be done, and the begin behind it is good.
use Rattle.std.specs.Prelude.{◌≡◌, ℕ, List, ◌∷◌}
use Rattle.std.proofs.Common.{ap, sym, subst, ◌∙◌}
use Rattle.cc_entry.specs.declared.entry.Entry.{Entry}
use Rattle.cc_entry.specs.declared.entry.Entry.TheVariants as entry
use Rattle.cc_journal.proofs.GoodEntries.{MayBePushed-good}
use Rattle.cc_model.specs.Good.{IsGoodSoFar}
use Rattle.cc_model.specs.History.{history}
use Rattle.cc_book.specs.Book.{BookState, book_of, BookStands, StandsAsBefore}
use Rattle.cc_book.proofs.BookSteps.{goes_on_began}
use Rattle.cc_book.proofs.OwnedSteps.{where_err}
use Rattle.cc_book.proofs.StoreSteps.{StandsAsBefore-images, StandsAsBefore-then, may-store, stored-entries}
use Rattle.cc_book.proofs.book.Book.store.Goals as goal

pub done-requires-clause-may : goal.done-requires-clause-may
done-requires-clause-may g c =
    let b : BookState = book_of c.self.inside.stream c.deref_mut.result.now in
    let view : b ≡ c.args.self.now = ap (book_of c.self.inside.stream) c.deref_mut.ensures.value ∙ c.self.view_is in
    let mid : BookState = record b { images = c.reserve.new.self } in
    let kept : StandsAsBefore c.args.self.now mid = subst (λ (x : BookState). StandsAsBefore x mid) view (StandsAsBefore-images b c.reserve.new.self c.reserve.ensures.stands) in
    let u = c.requires.may.0 in
    (u, may-store u c.args.journal.now.entries c.args.pass c.args.file c.args.page c.page.result c.args.bytes c.args.self.now mid kept c.requires.stream c.page.ensures.same c.requires.may.1)

pub returns-in_err-done-clause-err : goal.returns-in_err-done-clause-err
returns-in_err-done-clause-err g c =
    let b : BookState = book_of c.self.inside.stream c.deref_mut.result.now in
    let view : b ≡ c.args.self.now = ap (book_of c.self.inside.stream) c.deref_mut.ensures.value ∙ c.self.view_is in
    let mid : BookState = record b { images = c.reserve.new.self } in
    let kept : StandsAsBefore c.args.self.now mid = subst (λ (x : BookState). StandsAsBefore x mid) view (StandsAsBefore-images b c.reserve.new.self c.reserve.ensures.stands) in
    where_err c.from_residual-in_err-done.result _ (c.in_err-done.ensures.err.0, StandsAsBefore-then c.args.self.now mid c.done.new.self kept c.in_err-done.ensures.err.1)

pub push-requires-clause-may : goal.push-requires-clause-may
push-requires-clause-may g c =
    let u = c.requires.may.0 in
    let here = ap (λ b. b.stream) c.self.view_is ∙ sym c.requires.stream in
    let entries = stored-entries c.args.pass c.args.file c.args.page c.self.inside.stream c.page.result c.args.bytes c.args.journal.now c.done.new.journal c.in_ok-done.ensures.placed here c.page.ensures.same in
    MayBePushed-good u c.done.new.journal.entries _
    (subst (λ (past : List Entry). IsGoodSoFar u (entry.WriteBegin c.args.pass c.args.page ∷ past)) (sym entries) c.requires.may.1.good)

pub returns-clause-stands : goal.returns-clause-stands
returns-clause-stands g c u may =
    let b : BookState = book_of c.self.inside.stream c.deref_mut.result.now in
    let view : b ≡ c.args.self.now = ap (book_of c.self.inside.stream) c.deref_mut.ensures.value ∙ c.self.view_is in
    let mid : BookState = record b { images = c.reserve.new.self } in
    let last : BookState = book_of c.self-2.inside.stream c.deref_mut-parts.result.now in
    let last_view : last ≡ c.done.new.self = ap (book_of c.self-2.inside.stream) c.deref_mut-parts.ensures.value ∙ c.self-2.view_is in
    let past : List Entry = c.done.new.journal.entries in
    let kept : StandsAsBefore c.args.self.now mid = subst (λ (x : BookState). StandsAsBefore x mid) view (StandsAsBefore-images b c.reserve.new.self c.reserve.ensures.stands) in
    let stands : BookStands (u.opening mid.stream) past c.done.new.self = c.in_ok-done.ensures.stands u
    (may-store u c.args.journal.now.entries c.args.pass c.args.file c.args.page c.page.result c.args.bytes c.args.self.now mid kept c.requires.stream c.page.ensures.same may) in
    let opening = u.opening c.args.self.now.stream in
    let was : BookStands opening past last = subst (λ (x : BookState). BookStands opening past x) (sym last_view)
    (subst (λ (s : ℕ). BookStands (u.opening s) past c.done.new.self) kept.stream stands) in
    let same : c.args.page.stream ≡ last.stream = c.requires.stream ∙ (sym kept.stream ∙ (sym c.done.ensures.stream ∙ sym (ap (λ x. x.stream) last_view))) in
    let images = c.began_reserved.ensures (history past last.stream) c.args.pass c.args.page.page was.images_are (c.valid.ensures.stands opening (history past last.stream) was.contents_are) in
    rw (ap (λ j. j.entries) c.push.ensures.placed) (goes_on_began c.args.pass c.args.page past last c.began_reserved.new.self opening same images was)
