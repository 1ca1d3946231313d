use Rattle.cc_laws.proofs.LogSteps.{flushed_to-quiet, floor_of-quiet}
use Rattle.cc_laws.proofs.laws.other_logs_change_nothing.Goals as goal

pub returns : goal.returns
returns c = λ later past log quiet. record {
  same_flushed = flushed_to-quiet later past log quiet;
  same_floor = floor_of-quiet later past log quiet;
}
