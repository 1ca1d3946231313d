use Rattle.cc_laws.proofs.PlacesTouches.{touches-places}
use Rattle.cc_laws.proofs.by_places.touches_by_bytes.Goals as goal

pub returns : goal.returns
returns c = touches-places
