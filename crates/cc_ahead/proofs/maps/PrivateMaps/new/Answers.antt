use Rattle.cc_ahead.proofs.MapSteps.{stands-begun}
use Rattle.cc_ahead.proofs.maps.PrivateMaps.new.Goals as goal

pub returns : goal.returns
returns c = record { stands = rw c.new.ensures stands-begun }
