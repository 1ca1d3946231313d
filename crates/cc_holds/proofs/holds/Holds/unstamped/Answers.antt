use Rattle.std.proofs.Common.{rules}
use Rattle.cc_holds.specs.Holds.{is_unstamped_through}
use Rattle.cc_holds.proofs.Order.{IsLeast-first}
use Rattle.cc_holds.proofs.holds.Holds.unstamped.Goals as goal

pub returns-clause-least : goal.returns-clause-least
returns-clause-least c = IsLeast-first (is_unstamped_through c.args.page) c.args.self.now c.first_unstamped.result (search rules) (search (rules, c.self.invariant.in_order))
