use Rattle.cc_laws.proofs.PlacesImage.{image-places, image-opening, transfer-or_none}
use Rattle.cc_laws.proofs.by_places.images_by_places.Goals as goal

pub returns-clause-transferred : goal.returns-clause-transferred
returns-clause-transferred c = image-places

pub returns-clause-opening : goal.returns-clause-opening
returns-clause-opening c = image-opening

pub returns-clause-one_of_both : goal.returns-clause-one_of_both
returns-clause-one_of_both c = transfer-or_none
