use Rattle.std.proofs.Common.{◌≡◌, None, ap, ◌∙◌, find, not, sym}
use Rattle.cc_dirty.specs.Order.{is_between}
use Rattle.cc_dirty.specs.declared.row.Row.{Row}
use Rattle.cc_dirty.proofs.Lookup.{is_some-none, find-filter_all, length-filter-le}
use Rattle.cc_dirty.proofs.edit.drop_between.Goals as goal

pub returns-else-is_some-clause-rows : goal.returns-else-is_some-clause-rows
returns-else-is_some-clause-rows c =
    let none : find (λ (r : Row). is_between c.args.stream c.args.from c.args.to r.page) c.args.rows.now.rows ≡ None
    = ap (find (λ (r : Row). is_between c.args.stream c.args.from c.args.to r.page)) (sym c.as_slice.ensures)
    ∙ (sym c.first_between.ensures ∙ is_some-none c.first_between.result (sym c.is_some.ensures ∙ c.if-is_some.false)) in
    sym (find-filter_all (λ (r : Row). is_between c.args.stream c.args.from c.args.to r.page) c.args.rows.now.rows none)

pub returns-then-is_some-clause-len : goal.returns-then-is_some-clause-len
returns-then-is_some-clause-len c = rw c.drop_between.ensures.rows (length-filter-le (λ (r : Row). not (is_between c.args.stream c.args.from c.args.to r.page)) c.args.rows.now.rows)
