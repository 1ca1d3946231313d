use Rattle.cc_laws.proofs.PlacesResident.{resident-places}
use Rattle.cc_laws.proofs.by_places.resident_by_places.Goals as goal

pub returns : goal.returns
returns c = resident-places
