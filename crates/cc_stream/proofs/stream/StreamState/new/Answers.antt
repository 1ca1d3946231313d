use Rattle.std.proofs.Common.{refl}
use Rattle.cc_stream.proofs.StreamSteps.{stands-begun}
use Rattle.cc_stream.proofs.stream.StreamState.new.Goals as goal

pub returns : goal.returns
returns c = record { stands = stands-begun _ refl }
