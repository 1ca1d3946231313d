use Rattle.std.specs.Prelude.{◌+◌, Bool, nat_eq, cond, Some}
use Rattle.std.specs.Map.{lookup}
use Rattle.std.proofs.Common.{ap, ◌∙◌, subst}
use Rattle.cc_journal.proofs.CallSteps.{IsKept, counts_call}
use Rattle.cc_journal.specs.declared.calls.PassCalls.{PassCalls}
use Rattle.cc_journal.proofs.calls.CallCounts.count.Goals as goal

pub returns-clause-counted : goal.returns-clause-counted
returns-clause-counted c past nth stream call ended stores =
    let updates = rw c.unwrap-old.ensures at c.insert.ensures.updates in
    counts_call c.args.self.now.counts.entries c.insert.new.self.entries c.args.pass nth stream call ended past
    (subst (λ (b : Bool). IsKept c.args.self.now.counts.entries c.insert.new.self.entries c.args.pass b) stores
    (λ q. updates.0 q
    ∙ ap (λ (calls : PassCalls). cond (nat_eq c.args.pass q) (Some calls) (lookup (nat_eq q) c.args.self.now.counts.entries))
    (ap (λ n. record { count = n + 1; owes = c.args.owes }) c.of-count.ensures)))
