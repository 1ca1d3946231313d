use Rattle.std.proofs.Common.{rules, ◌∙◌, ap, not, filter}
use Rattle.std.proofs.lemmas.Fn.{filter_same}
use Rattle.cc_dirty.specs.Order.{is_from}
use Rattle.cc_dirty.specs.declared.row.Row.{Row}
use Rattle.cc_dirty.proofs.live.LiveRows.drop_from.Goals as goal

pub returns-clause-rows : goal.returns-clause-rows
returns-clause-rows c = rw (← c.self.view_is)
    (filter_same _ (λ (r : Row). not (is_from c.args.stream c.args.page r.page)) _ (λ x b f' k. search rules) _ _ c.retain.ensures.filtered
    ∙ ap (filter (λ (r : Row). not (is_from c.args.stream c.args.page r.page))) c.move_to_start.ensures.rows)
