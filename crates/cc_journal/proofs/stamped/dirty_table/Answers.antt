use Rattle.std.specs.Prelude.{List}
use Rattle.std.proofs.Common.{sym, subst, ◌∙◌}
use Rattle.cc_dirty.specs.declared.row.Row.{Row}
use Rattle.cc_journal.specs.Rows.{Follows}
use Rattle.cc_journal.proofs.LogRows.{table-rows}
use Rattle.cc_journal.proofs.stamped.dirty_table.Goals as goal

pub returns : goal.returns
returns g c =
    let past = c.args.journal.now.entries in
    let follows = subst (λ (rows : List Row). Follows past rows) (sym c.rows.ensures.rows) c.dirty.ensures.follows in
    c.from_vec.ensures ∙ (c.in_ok-rows.ensures ∙ table-rows past c.args.handle c.rows.result.now c.rows.ensures.sound follows)
