use Rattle.cc_laws.proofs.CleanPages.{IsOnDisk-good}
use Rattle.cc_laws.proofs.durability.clean_pages_are_on_disk.Goals as goal

pub returns : goal.returns
returns c = IsOnDisk-good
