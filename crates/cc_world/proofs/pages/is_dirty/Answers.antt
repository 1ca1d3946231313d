use Rattle.std.specs.Prelude.{is_some, Option}
use Rattle.std.proofs.Common.{ap, ◌∙◌}
use Rattle.cc_book.proofs.DirtyRows.{dirty-follows}
use Rattle.cc_dirty.specs.declared.row.Row.{Row}
use Rattle.cc_world.proofs.pages.is_dirty.Goals as goal

pub returns : goal.returns
returns g c =
    let past = c.args.journal.now.entries in
    let rows = c.dirty.result.now.rows in
    let follows = c.dirty.ensures.follows in
    c.is_some.ensures ∙ (ap (λ (o : Option Row). is_some o) c.row_of.ensures.row
    ∙ (dirty-follows past c.args.page.stream rows c.row_of.ensures.sound follows).dirty c.args.page.page)
