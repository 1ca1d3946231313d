use Rattle.cc_laws.proofs.SoundFacts.{held_resident-good}
use Rattle.cc_laws.proofs.soundness.held_pages_are_resident.Goals as goal

pub returns : goal.returns
returns c = held_resident-good
