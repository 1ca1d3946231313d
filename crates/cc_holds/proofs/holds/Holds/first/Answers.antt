use Rattle.std.proofs.Common.{rules, true}
use Rattle.cc_holds.proofs.Order.{IsLeast-first}
use Rattle.cc_holds.proofs.holds.Holds.first.Goals as goal

pub returns-clause-least : goal.returns-clause-least
returns-clause-least c = IsLeast-first (λ _. true) c.args.self.now c.first_of.result (search rules) (search (rules, c.self.invariant.in_order))
