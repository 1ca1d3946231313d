use Rattle.std.proofs.Common.{rules}
use Rattle.cc_holds.specs.Holds.{pin_conflicts}
use Rattle.cc_holds.proofs.Order.{IsLeast-first}
use Rattle.cc_holds.proofs.holds.Holds.pin_conflict.Goals as goal

pub returns-clause-least : goal.returns-clause-least
returns-clause-least c = IsLeast-first (pin_conflicts c.args.span c.args.exclusive) c.args.self.now c.first_conflict.result (search rules) (search (rules, c.self.invariant.in_order))
