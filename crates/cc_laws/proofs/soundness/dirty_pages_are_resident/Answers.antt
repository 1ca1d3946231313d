use Rattle.cc_laws.proofs.SoundFacts.{dirty_resident-good}
use Rattle.cc_laws.proofs.soundness.dirty_pages_are_resident.Goals as goal

pub returns : goal.returns
returns c = dirty_resident-good
