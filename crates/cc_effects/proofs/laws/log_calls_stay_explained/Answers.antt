use Rattle.cc_effects.proofs.OtherSteps.{append-after, append-before, log-flush-after, log-flush-before}
use Rattle.cc_effects.proofs.laws.log_calls_stay_explained.Goals as goal

pub returns-clause-append_after : goal.returns-clause-append_after
returns-clause-append_after c = append-after

pub returns-clause-append_before : goal.returns-clause-append_before
returns-clause-append_before c = append-before

pub returns-clause-flush_after : goal.returns-clause-flush_after
returns-clause-flush_after c = log-flush-after

pub returns-clause-flush_before : goal.returns-clause-flush_before
returns-clause-flush_before c = log-flush-before
