-- Where a fault may be is computed from the past.
use Rattle.std.specs.Prelude.{◌<◌}
use Rattle.std.proofs.Common.{arith}
use Rattle.cc_worked.proofs.PiecesOpened.{computed}
use Rattle.cc_worked.proofs.pieces_events.faults_are_of_what_is_asked.Goals as goal

pub returns-clause-no_log_to_append_to : goal.returns-clause-no_log_to_append_to
returns-clause-no_log_to_append_to c left =
    let known : 4 < 4 = left.2.0 in
    absurd (omega (arith, known))

pub returns-clause-no_log_to_flush : goal.returns-clause-no_log_to_flush
returns-clause-no_log_to_flush c left =
    let known : 4 < 4 = left.2.0 in
    absurd (omega (arith, known))

pub returns-clause-no_byte_to_read : goal.returns-clause-no_byte_to_read
unfolding computed
returns-clause-no_byte_to_read c left =
    let below : 4096 < 4096 = left.2 in
    absurd (omega (arith, below))
