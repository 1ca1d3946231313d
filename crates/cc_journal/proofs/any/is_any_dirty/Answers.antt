-- There are rows exactly where a page is dirty, since they follow the past.
use Rattle.std.specs.Prelude.{not, List}
use Rattle.std.proofs.Common.{ap, sym, ◌∙◌, subst}
use Rattle.cc_dirty.specs.declared.row.Row.{Row}
use Rattle.cc_journal.specs.Rows.{Follows}
use Rattle.cc_journal.proofs.AnyRows.{dirty-rows}
use Rattle.cc_journal.proofs.any.is_any_dirty.Goals as goal

pub returns : goal.returns
returns g c =
    let past = c.args.journal.now.entries in
    let follows = subst (λ (rows : List Row). Follows past rows) (sym c.rows.ensures.rows) c.dirty.ensures.follows in
    ap not c.is_empty.ensures ∙ dirty-rows past c.rows.result.now follows c.rows.ensures.sound
