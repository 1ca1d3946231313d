use Rattle.cc_stored.proofs.Crashes.{crash-bytes}
use Rattle.cc_stored.proofs.laws.crashes_leave_what_was_there.Goals as goal

pub returns : goal.returns
returns c = crash-bytes
