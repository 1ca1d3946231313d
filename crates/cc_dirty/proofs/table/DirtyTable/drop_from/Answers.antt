use Rattle.std.proofs.Common.{not, arith}
use Rattle.cc_dirty.specs.Order.{is_from}
use Rattle.cc_dirty.proofs.Rows.{Sound-filter, DropsPages-from}
use Rattle.cc_dirty.proofs.table.DirtyTable.drop_from.Goals as goal

pub invariant_of-self : goal.invariant_of-self
invariant_of-self c = (rw c.drop_from.ensures.rows (Sound-filter (λ r. not (is_from c.args.stream c.args.page r.page)) c.self.inside.rows.rows c.self.invariant.0), omega arith)

pub returns-clause-rows : goal.returns-clause-rows
returns-clause-rows c = rw (← c.self.view_is) (DropsPages-from c.args.stream c.args.page c.self.inside.rows.rows _ c.drop_from.ensures.rows)
