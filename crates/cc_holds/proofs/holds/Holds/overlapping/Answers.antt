use Rattle.std.proofs.Common.{rules}
use Rattle.cc_holds.specs.Holds.{hold_overlaps}
use Rattle.cc_holds.proofs.Order.{IsLeast-first}
use Rattle.cc_holds.proofs.holds.Holds.overlapping.Goals as goal

pub returns-clause-least : goal.returns-clause-least
returns-clause-least c = IsLeast-first (hold_overlaps c.args.span) c.args.self.now c.first_overlapping.result (search rules) (search (rules, c.self.invariant.in_order))
