use Rattle.cc_laws.specs.ByPlacesSizes.{sets_size}
use Rattle.cc_laws.proofs.PlacesLast.{last-or-none}
use Rattle.cc_laws.proofs.PlacesSizes.{size-places, size-opening, valid-places}
use Rattle.cc_laws.proofs.by_places.sizes_by_places.Goals as goal

pub returns-clause-set : goal.returns-clause-set
returns-clause-set c = size-places

pub returns-clause-opening : goal.returns-clause-opening
returns-clause-opening c = size-opening

pub returns-clause-one_of_both : goal.returns-clause-one_of_both
returns-clause-one_of_both c = last-or-none sets_size

pub returns-clause-valid : goal.returns-clause-valid
returns-clause-valid c = valid-places
