use Rattle.cc_records.proofs.Settling.{may-tell}
use Rattle.cc_records.proofs.laws.flushed_lengths_may_be_told.Goals as goal

pub returns : goal.returns
returns c = may-tell
