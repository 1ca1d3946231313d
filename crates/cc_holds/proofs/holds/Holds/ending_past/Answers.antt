use Rattle.std.proofs.Common.{rules}
use Rattle.cc_holds.specs.Holds.{ends_past}
use Rattle.cc_holds.proofs.Order.{IsLeast-first}
use Rattle.cc_holds.proofs.holds.Holds.ending_past.Goals as goal

pub returns-clause-least : goal.returns-clause-least
returns-clause-least c = IsLeast-first (ends_past c.args.size) c.args.self.now c.first_past.result (search rules) (search (rules, c.self.invariant.in_order))
