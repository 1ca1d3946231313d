use Rattle.std.proofs.Common.{◌≡◌, None, ap, ◌∙◌, find, not, sym}
use Rattle.cc_dirty.specs.Order.{is_from}
use Rattle.cc_dirty.specs.declared.row.Row.{Row}
use Rattle.cc_dirty.proofs.Lookup.{is_some-none, find-filter_all, length-filter-le}
use Rattle.cc_dirty.proofs.edit.drop_from.Goals as goal

pub returns-else-is_some-clause-rows : goal.returns-else-is_some-clause-rows
returns-else-is_some-clause-rows c =
    let none : find (λ (r : Row). is_from c.args.stream c.args.page r.page) c.args.rows.now.rows ≡ None
    = ap (find (λ (r : Row). is_from c.args.stream c.args.page r.page)) (sym c.as_slice.ensures)
    ∙ (sym c.first_from.ensures ∙ is_some-none c.first_from.result (sym c.is_some.ensures ∙ c.if-is_some.false)) in
    sym (find-filter_all (λ (r : Row). is_from c.args.stream c.args.page r.page) c.args.rows.now.rows none)

pub returns-then-is_some-clause-len : goal.returns-then-is_some-clause-len
returns-then-is_some-clause-len c = rw c.drop_from.ensures.rows (length-filter-le (λ (r : Row). not (is_from c.args.stream c.args.page r.page)) c.args.rows.now.rows)
