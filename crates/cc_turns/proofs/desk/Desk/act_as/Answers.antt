use Rattle.std.proofs.Common.{ap}
use Rattle.cc_turns.proofs.DeskSteps.{acts_as}
use Rattle.cc_turns.proofs.desk.Desk.act_as.Goals as goal

pub invariant_of-self : goal.invariant_of-self
invariant_of-self g c = (acts_as _ _ _ _ _ _ c.args.pass c.of.result.value.value.entries (ap (λ snapshot. snapshot.value.entries) c.of.ensures) c.self.invariant.0, c.self.invariant.1, c.self.invariant.2)
