use Rattle.std.specs.Prelude.{◌≡◌, List}
use Rattle.std.proofs.Common.{ap, sym, ◌∙◌, subst}
use Rattle.cc_entry.specs.declared.entry.Entry.{Entry}
use Rattle.cc_model.specs.History.{history}
use Rattle.cc_journal.proofs.GoodEntries.{MayBePushed-good}
use Rattle.cc_book.specs.Book.{BookState, book_of, BookStands}
use Rattle.cc_book.proofs.BookSteps.{goes_on_out}
use Rattle.cc_book.proofs.book.Book.take_out.Goals as goal

pub push-requires-clause-may : goal.push-requires-clause-may
push-requires-clause-may g c = MayBePushed-good c.requires.may.0 c.args.journal.now.entries _ c.requires.may.1

pub returns-clause-stands : goal.returns-clause-stands
returns-clause-stands g c opening stands =
    let past : List Entry = c.args.journal.now.entries in
    let b : BookState = book_of c.self.inside.stream c.deref_mut.result.now in
    let view : b ≡ c.args.self.now = ap (book_of c.self.inside.stream) c.deref_mut.ensures.value ∙ c.self.view_is in
    let was : BookStands opening past b = subst (λ (x : BookState). BookStands opening past x) (sym view) stands in
    let same : c.args.page.stream ≡ b.stream = c.requires.stream ∙ sym (ap (λ x. x.stream) view) in
    let grown = ap (λ j. j.entries) c.push.ensures.placed in
    rw grown (goes_on_out c.args.pass c.args.page past b c.went_out.new.self opening same (rw c.page.ensures.same at (c.went_out.ensures opening (history past b.stream) c.args.pass was.contents_are)) was)
