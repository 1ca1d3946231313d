-- A good begin asks that the page is resident, so there is a snapshot; the sharing leaves what the book means.
use Rattle.std.specs.Prelude.{◌≡◌, ℕ, true, List, is_some, refl}
use Rattle.std.proofs.Common.{ap, sym, subst, ◌∙◌, true≢false}
use Rattle.cc_entry.specs.declared.entry.Entry.{Entry}
use Rattle.cc_journal.proofs.GoodEntries.{MayBePushed-good}
use Rattle.cc_model.specs.History.{history}
use Rattle.cc_model.specs.Residency.{is_resident}
use Rattle.cc_book.specs.Book.{BookState, book_of, BookStands, IsSnapshot, StandsAsBefore}
use Rattle.cc_book.proofs.BookSteps.{goes_on_began}
use Rattle.cc_book.proofs.OwnedSteps.{StandsAsBefore-contents, where_err, begun-resident, IsSnapshot-of}
use Rattle.cc_book.proofs.book.Book.begin.Goals as goal

pub returns-in_err-snapshot-clause-err : goal.returns-in_err-snapshot-clause-err
returns-in_err-snapshot-clause-err g c =
    let b : BookState = book_of c.self.inside.stream c.deref_mut-parts.result.now in
    let view : b ≡ c.args.self.now = ap (book_of c.self.inside.stream) c.deref_mut-parts.ensures.value ∙ c.self.view_is in
    where_err c.from_residual.result _ (refl, subst (λ (x : BookState). StandsAsBefore x (record b { contents = c.share.new.self })) view (StandsAsBefore-contents b c.share.new.self c.share.ensures.same))

pub returns-in_err-began-in-Some-clause-err : goal.returns-in_err-began-in-Some-clause-err
returns-in_err-began-in-Some-clause-err g c =
    let b : BookState = book_of c.self.inside.stream c.deref_mut-parts.result.now in
    let view : b ≡ c.args.self.now = ap (book_of c.self.inside.stream) c.deref_mut-parts.ensures.value ∙ c.self.view_is in
    let shared : StandsAsBefore b (record b { contents = c.share.new.self }) = StandsAsBefore-contents b c.share.new.self c.share.ensures.same in
    let kept : StandsAsBefore b (record b { contents = c.share.new.self; images = c.began.new.self }) = subst (λ i. StandsAsBefore b (record b { contents = c.share.new.self; images = i })) (sym c.in_err-began-in-Some.ensures.err) shared in
    where_err c.from_residual-in_err-began-in-Some.result _ (refl, subst (λ (x : BookState). StandsAsBefore x (record b { contents = c.share.new.self; images = c.began.new.self })) view kept)

pub push-requires-clause-may : goal.push-requires-clause-may
push-requires-clause-may g c = MayBePushed-good c.requires.may.0 c.args.journal.now.entries _ c.requires.may.1

pub unreachable-requires : goal.unreachable-requires
unreachable-requires g c =
    let past : List Entry = c.args.journal.now.entries in
    let u = c.requires.may.0 in
    let b : BookState = book_of c.self.inside.stream c.deref_mut-parts.result.now in
    let view : b ≡ c.args.self.now = ap (book_of c.self.inside.stream) c.deref_mut-parts.ensures.value ∙ c.self.view_is in
    let was : BookStands (u.opening c.args.self.now.stream) past b = subst (λ (x : BookState). BookStands (u.opening c.args.self.now.stream) past x) (sym view) c.requires.may.2 in
    let stream : c.args.page.stream ≡ b.stream = c.requires.stream ∙ sym (ap (λ x. x.stream) view) in
    let there : is_resident (history past c.args.page.stream) c.args.page.page ≡ true = begun-resident u past c.args.pass c.args.page c.requires.may.1 in
    let told = c.in_ok-snapshot.ensures.resident (u.opening c.args.self.now.stream) (history past b.stream) was.contents_are in
    true≢false (sym there ∙ (ap (λ (s : ℕ). is_resident (history past s) c.args.page.page) stream ∙ (ap (λ (p : ℕ). is_resident (history past b.stream) p) (sym c.page.ensures.same) ∙ (sym told ∙ ap is_some c.in-None.is))))

pub returns-clause-snapshot : goal.returns-clause-snapshot
returns-clause-snapshot g c =
    let b : BookState = book_of c.self.inside.stream c.deref_mut-parts.result.now in
    let view : b ≡ c.args.self.now = ap (book_of c.self.inside.stream) c.deref_mut-parts.ensures.value ∙ c.self.view_is in
    subst (λ (x : BookState). IsSnapshot x c.args.page.page c.in-Some.frame) view
    (subst (λ (p : ℕ). IsSnapshot b p c.in-Some.frame) c.page.ensures.same
    (IsSnapshot-of b c.page.result _ c.in-Some.frame c.in-Some.is c.in_ok-snapshot.ensures.bytes c.in_ok-snapshot.ensures.whole))

pub returns-clause-stands : goal.returns-clause-stands
returns-clause-stands g c opening stands =
    let past : List Entry = c.args.journal.now.entries in
    let b : BookState = book_of c.self.inside.stream c.deref_mut-parts.result.now in
    let view : b ≡ c.args.self.now = ap (book_of c.self.inside.stream) c.deref_mut-parts.ensures.value ∙ c.self.view_is in
    let was : BookStands opening past b = subst (λ (x : BookState). BookStands opening past x) (sym view) stands in
    let same : c.args.page.stream ≡ b.stream = c.requires.stream ∙ sym (ap (λ x. x.stream) view) in
    let kept = StandsAsBefore-contents b c.share.new.self c.share.ensures.same in
    let mid : BookStands opening past (record b { contents = c.share.new.self }) = kept.stands past opening was in
    let valid = c.valid.ensures.stands opening (history past b.stream) mid.contents_are in
    let images = c.in_ok-began-in-Some.ensures.stands (history past b.stream) c.args.pass c.args.page.page mid.images_are valid in
    let grown = ap (λ j. j.entries) c.push.ensures.placed in
    rw grown (goes_on_began c.args.pass c.args.page past (record b { contents = c.share.new.self }) c.began.new.self opening same images mid)
