use Rattle.std.proofs.Common.{arith}
use Rattle.cc_journal.proofs.CallSteps.{counts_none_ended}
use Rattle.cc_journal.proofs.calls.CallCounts.follow.Goals as goal

pub returns-in_default : goal.returns-in_default
returns-in_default c = record {
  counted = λ past stood. counts_none_ended c.args.self.now.counts.entries c.args.entry.now past c.in_default.not-Call stood;
  room = omega arith;
}
