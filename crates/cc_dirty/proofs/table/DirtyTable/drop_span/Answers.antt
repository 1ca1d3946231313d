use Rattle.std.proofs.Common.{not, arith}
use Rattle.cc_dirty.specs.Order.{is_between}
use Rattle.cc_dirty.proofs.Rows.{Sound-filter, DropsPages-between}
use Rattle.cc_dirty.proofs.table.DirtyTable.drop_span.Goals as goal

pub invariant_of-self : goal.invariant_of-self
invariant_of-self c = (rw c.drop_between.ensures.rows (Sound-filter (λ r. not (is_between c.args.stream c.args.from c.args.to r.page)) c.self.inside.rows.rows c.self.invariant.0), omega arith)

pub returns-clause-rows : goal.returns-clause-rows
returns-clause-rows c = rw (← c.self.view_is) (DropsPages-between c.args.stream c.args.from c.args.to c.self.inside.rows.rows _ c.drop_between.ensures.rows)
