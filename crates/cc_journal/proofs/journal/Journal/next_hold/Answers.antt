use Rattle.std.proofs.Common.{arith}
use Rattle.cc_journal.proofs.KeptSteps.{holds_within}
use Rattle.cc_journal.proofs.journal.Journal.next_hold.Goals as goal

pub overflow_add-result : goal.overflow_add-result
overflow_add-result g c =
    let past = c.self.inside.entries.past in
    omega (arith, c.self.invariant.0.made, holds_within past, c.self.invariant.1.within, c.self.invariant.1.countable)
