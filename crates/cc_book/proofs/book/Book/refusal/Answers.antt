-- What is kept stands for what the refusal is decided from, one by one; the dirty rows are those of the stream.
use Rattle.std.specs.Prelude.{◌≡◌, List}
use Rattle.std.proofs.Common.{ap, sym, ◌∙◌, subst}
use Rattle.std.proofs.lemmas.Result.{IfOk-weaker}
use Rattle.cc_dirty.specs.Table.{Sound}
use Rattle.cc_dirty.specs.declared.row.Row.{Row}
use Rattle.cc_entry.specs.declared.entry.Entry.{Entry}
use Rattle.cc_images.specs.Dirty.{AreDirty}
use Rattle.cc_model.specs.History.{history}
use Rattle.cc_book.specs.Book.{BookState, book_of, BookStands}
use Rattle.cc_book.proofs.DirtyRows.{dirty-follows}
use Rattle.cc_book.proofs.book.Book.refusal.Goals as goal

pub returns : goal.returns
returns g c =
    let past : List Entry = c.args.journal.now.entries in
    let b : BookState = book_of c.self.inside.stream c.deref-parts.result.now in
    let view : b ≡ c.args.self.now = ap (book_of c.self.inside.stream) c.deref-parts.ensures ∙ c.self.view_is in
    let h = history past c.args.self.now.stream in
    let stream = ap (λ x. x.stream) view in
    let rows = subst (λ (rs : List Row). AreDirty (history past b.stream) b.stream rs) (sym c.rows.ensures.rows)
    (dirty-follows past b.stream c.dirty.result.now.rows (subst Sound c.rows.ensures.rows c.rows.ensures.sound) c.dirty.ensures.follows) in
    IfOk-weaker c.refusal.result _ _
    (λ refused given u opening logs stands.
    let was : BookStands opening past b = subst (λ (x : BookState). BookStands opening past x) (sym view) stands in
    given u past h
    (record {
      state = rw (sym stream) was.state_is;
      valid = rw (sym stream) (c.valid.ensures.stands opening (history past b.stream) was.contents_are);
      mapped = rw (sym stream) (c.has_map.ensures.stands opening (history past b.stream) was.contents_are);
      holds = rw (sym stream) was.holds_are;
      images = rw (sym stream) was.images_are;
      dirty = rw (sym stream) rows;
      logs = logs ∙ sym c.logs.ensures;
    })
    (c.least_absent.ensures opening past stands) c.free_views_for-free_views.ensures)
    c.refusal.ensures
