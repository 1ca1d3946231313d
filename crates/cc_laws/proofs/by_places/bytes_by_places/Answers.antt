use Rattle.cc_laws.specs.ByPlaces.{decides_byte}
use Rattle.cc_laws.proofs.PlacesLast.{last-or-none}
use Rattle.cc_laws.proofs.PlacesBytes.{byte_of-changed, byte_of-discarded, byte_of-opening, byte_of-zero}
use Rattle.cc_laws.proofs.by_places.bytes_by_places.Goals as goal

pub returns-clause-changed : goal.returns-clause-changed
returns-clause-changed c = byte_of-changed

pub returns-clause-discarded : goal.returns-clause-discarded
returns-clause-discarded c = byte_of-discarded

pub returns-clause-opening : goal.returns-clause-opening
returns-clause-opening c = byte_of-opening

pub returns-clause-one_of_both : goal.returns-clause-one_of_both
returns-clause-one_of_both c = λ h i. last-or-none (decides_byte i) h

pub returns-clause-zero : goal.returns-clause-zero
returns-clause-zero c = byte_of-zero
