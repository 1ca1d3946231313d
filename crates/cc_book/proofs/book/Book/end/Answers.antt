-- A good end may be pushed; the journal says whether the map stays, and the contents keep or drop the pages by that.
use Rattle.std.specs.Prelude.{◌≡◌, List}
use Rattle.std.proofs.Common.{ap, sym, ◌∙◌, subst}
use Rattle.cc_entry.specs.declared.entry.Entry.{Entry}
use Rattle.cc_model.specs.History.{history}
use Rattle.cc_model.specs.Touches.{is_mapped}
use Rattle.cc_journal.proofs.GoodEntries.{MayBePushed-good}
use Rattle.cc_book.specs.Book.{BookState, book_of, BookStands}
use Rattle.cc_book.proofs.BookSteps.{goes_on_ended, history_ended}
use Rattle.cc_book.proofs.book.Book.end.Goals as goal

pub push-requires-clause-may : goal.push-requires-clause-may
push-requires-clause-may g c = MayBePushed-good c.requires.may.0 c.args.journal.now.entries _ c.requires.may.1

pub ended-requires : goal.ended-requires
ended-requires g c =
    let past : List Entry = c.args.journal.now.entries in
    let b : BookState = book_of c.self.inside.stream c.deref_mut-parts.result.now in
    let view : b ≡ c.args.self.now = ap (book_of c.self.inside.stream) c.deref_mut-parts.ensures.value ∙ c.self.view_is in
    let u = c.requires.may.0 in
    let was : BookStands (u.opening c.args.self.now.stream) past b = subst (λ (x : BookState). BookStands (u.opening c.args.self.now.stream) past x) (sym view) c.requires.may.2 in
    let same : c.args.page.stream ≡ b.stream = c.requires.stream ∙ sym (ap (λ x. x.stream) view) in
    rw c.page.ensures.same
    (record {
      may = record {
        u = u;
        past = past;
        pass = c.args.pass;
        s = c.args.page.stream;
        may = record {
          good = c.requires.may.1;
          stands = rw same was.images_are;
          valid_is = rw same (c.valid.ensures.stands (u.opening c.args.self.now.stream) (history past b.stream) was.contents_are);
        };
      };
    })

pub returns-clause-stands : goal.returns-clause-stands
returns-clause-stands g c opening stands =
    let past : List Entry = c.args.journal.now.entries in
    let b : BookState = book_of c.self.inside.stream c.deref_mut-parts.result.now in
    let view : b ≡ c.args.self.now = ap (book_of c.self.inside.stream) c.deref_mut-parts.ensures.value ∙ c.self.view_is in
    let was : BookStands opening past b = subst (λ (x : BookState). BookStands opening past x) (sym view) stands in
    let same : c.args.page.stream ≡ b.stream = c.requires.stream ∙ sym (ap (λ x. x.stream) view) in
    let grown = ap (λ j. j.entries) c.push.ensures.placed in
    let u = c.requires.may.0 in
    let valid = c.valid.ensures.stands opening (history past b.stream) was.contents_are in
    let images = rw c.page.ensures.same at (c.ended.ensures u past c.args.pass c.args.page.stream
    (rw c.page.ensures.same (record { good = c.requires.may.1; stands = rw same was.images_are; valid_is = rw same valid }))) in
    rw grown (goes_on_ended c.args.pass c.args.page c.args.how past b c.ended-2.new.self c.ended.new.self opening same
    (c.ended-2.ensures.ended opening (history past b.stream) c.args.pass c.args.page.page c.args.how was.contents_are
    (c.is_mapped-mapped.ensures ∙ ap is_mapped (ap (λ p. history p b.stream) grown ∙ history_ended c.args.pass c.args.page c.args.how past b.stream same)))
    (rw same at images) was)
