use Rattle.cc_laws.proofs.KeptLaws.{SameImages-deviceless, SameCrash-deviceless}
use Rattle.cc_laws.proofs.laws.entries_without_disk_change_no_image.Goals as goal

pub returns-clause-images : goal.returns-clause-images
returns-clause-images c = SameImages-deviceless

pub returns-clause-crash : goal.returns-clause-crash
returns-clause-crash c = SameCrash-deviceless
