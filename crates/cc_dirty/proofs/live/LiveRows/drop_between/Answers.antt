use Rattle.std.proofs.Common.{rules, ◌∙◌, ap, not, filter}
use Rattle.std.proofs.lemmas.Fn.{filter_same}
use Rattle.cc_dirty.specs.Order.{is_between}
use Rattle.cc_dirty.specs.declared.row.Row.{Row}
use Rattle.cc_dirty.proofs.live.LiveRows.drop_between.Goals as goal

pub returns-clause-rows : goal.returns-clause-rows
returns-clause-rows c = rw (← c.self.view_is)
    (filter_same _ (λ (r : Row). not (is_between c.args.stream c.args.from c.args.to r.page)) _ (λ x b f' k. search rules) _ _ c.retain.ensures.filtered
    ∙ ap (filter (λ (r : Row). not (is_between c.args.stream c.args.from c.args.to r.page))) c.move_to_start.ensures.rows)
