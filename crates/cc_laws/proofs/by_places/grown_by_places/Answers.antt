use Rattle.cc_laws.proofs.PlacesGrown.{grown-places, low-places}
use Rattle.cc_laws.proofs.by_places.grown_by_places.Goals as goal

pub returns-clause-grown : goal.returns-clause-grown
returns-clause-grown c = grown-places

pub returns-clause-low : goal.returns-clause-low
returns-clause-low c = low-places
