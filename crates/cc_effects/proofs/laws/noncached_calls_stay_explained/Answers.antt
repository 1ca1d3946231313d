use Rattle.cc_effects.proofs.NoncachedSteps.{nc-read-after, nc-read-before, nc-write-after, nc-write-before}
use Rattle.cc_effects.proofs.laws.noncached_calls_stay_explained.Goals as goal

pub returns-clause-read_after : goal.returns-clause-read_after
returns-clause-read_after c = nc-read-after

pub returns-clause-read_before : goal.returns-clause-read_before
returns-clause-read_before c = nc-read-before

pub returns-clause-write_after : goal.returns-clause-write_after
returns-clause-write_after c = nc-write-after

pub returns-clause-write_before : goal.returns-clause-write_before
returns-clause-write_before c = nc-write-before
