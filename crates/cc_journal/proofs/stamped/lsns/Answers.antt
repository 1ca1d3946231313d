use Rattle.std.specs.Prelude.{List}
use Rattle.std.proofs.Common.{sym, subst, ◌∙◌}
use Rattle.cc_dirty.specs.declared.row.Row.{Row}
use Rattle.cc_journal.specs.Rows.{Follows}
use Rattle.cc_journal.proofs.StreamLsns.{lsns-rows}
use Rattle.cc_journal.proofs.stamped.lsns.Goals as goal

pub returns : goal.returns
returns g c =
    let past = c.args.journal.now.entries in
    let follows = subst (λ (rows : List Row). Follows past rows) (sym c.rows.ensures.rows) c.dirty.ensures.follows in
    c.lsns_of_rows.ensures ∙ lsns-rows past c.args.stream c.rows.result.now c.rows.ensures.sound follows
