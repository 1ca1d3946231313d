-- Page 1 is not settled, so no record may tell what was written into it.
use Rattle.std.specs.Prelude.{◌≡◌, false, true}
use Rattle.std.proofs.Common.{arith}
use Rattle.cc_worked.proofs.Opened.{opened}
use Rattle.cc_worked.proofs.records.record_tells_what_is_on_disk.Goals as goal

unlike : false ≡ true → ⊥
unlike same = absurd (cc)

pub returns-clause-not_before_sync : goal.returns-clause-not_before_sync
unfolding opened
returns-clause-not_before_sync c allowed = unlike (allowed.0.1.told 1 (omega arith) (omega arith) (omega arith))

pub returns-clause-not_after_failed_transfer : goal.returns-clause-not_after_failed_transfer
unfolding opened
returns-clause-not_after_failed_transfer c allowed = unlike (allowed.0.1.told 1 (omega arith) (omega arith) (omega arith))
