-- A page that may come in has room for its block, and its entry may be pushed; what is kept then follows the page in.
use Rattle.std.specs.Prelude.{◌≡◌, ◌*◌, nat_lt, List}
use Rattle.std.proofs.Common.{ap, sym, ◌∙◌, subst}
use Rattle.cc_entry.specs.declared.entry.Entry.{Entry}
use Rattle.cc_model.specs.History.{history}
use Rattle.cc_content.proofs.Kept.{room-may_come_in}
use Rattle.cc_content.specs.Filling.{IsReadFrom}
use Rattle.cc_journal.proofs.GoodEntries.{MayBePushed-good}
use Rattle.cc_book.specs.Book.{BookState, book_of, BookStands}
use Rattle.cc_book.proofs.BookSteps.{goes_on_in, may_come_in}
use Rattle.cc_book.specs.declared.book.BookParts.{BookParts}
use Rattle.cc_book.proofs.book.Book.bring_in.Goals as goal

pub came_in-requires : goal.came_in-requires
came_in-requires g c =
    let past : List Entry = c.args.journal.now.entries in
    let b : BookState = book_of c.self.inside.stream c.deref_mut.result.now in
    let view : b ≡ c.args.self.now = ap (book_of c.self.inside.stream) c.deref_mut.ensures.value ∙ c.self.view_is in
    let u = c.requires.may.0 in
    let was : BookStands (u.opening c.args.self.now.stream) past b = subst (λ (x : BookState). BookStands (u.opening c.args.self.now.stream) past x) (sym view) c.requires.may.2 in
    let same : c.args.page.stream ≡ b.stream = c.requires.stream ∙ sym (ap (λ x. x.stream) view) in
    let may = rw same at (may_come_in u past c.args.pass c.args.page _ c.requires.may.1) in
    rw c.page-2.ensures.same (room-may_come_in _ _ _ _ _ was.contents_are may)

pub push-requires-clause-may : goal.push-requires-clause-may
push-requires-clause-may g c =
    let valid = ap (λ (parts : BookParts). parts.contents.valid) c.deref_mut.ensures.value ∙ ap (λ b. b.contents.valid) c.self.view_is in
    rw (c.page.ensures.same, c.valid.ensures.same, valid) (MayBePushed-good c.requires.may.0 c.args.journal.now.entries _ c.requires.may.1)

pub returns-clause-stands : goal.returns-clause-stands
returns-clause-stands g c opening read stands =
    let past : List Entry = c.args.journal.now.entries in
    let b : BookState = book_of c.self.inside.stream c.deref_mut.result.now in
    let view : b ≡ c.args.self.now = ap (book_of c.self.inside.stream) c.deref_mut.ensures.value ∙ c.self.view_is in
    let was : BookStands opening past b = subst (λ (x : BookState). BookStands opening past x) (sym view) stands in
    let same : c.args.page.stream ≡ b.stream = c.requires.stream ∙ sym (ap (λ x. x.stream) view) in
    let grown = ap (λ j. j.entries) c.push.ensures.placed in
    let stream = ap (λ x. x.stream) view in
    let read_here : IsReadFrom opening (history past b.stream) c.page-2.result c.args.raw.now = rw (stream, c.page-2.ensures.same) read in
    let came = rw c.page-2.ensures.same at (c.in_ok-came_in.ensures.stands opening (history past b.stream) c.args.pass (nat_lt (4096 * c.page.result) c.valid.result) was.contents_are read_here) in
    rw grown (goes_on_in c.args.pass c.args.page (nat_lt (4096 * c.page.result) c.valid.result) past b c.came_in.new.self opening same came was)
