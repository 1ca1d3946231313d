use Rattle.cc_laws.proofs.SoundFacts.{held_within-good}
use Rattle.cc_laws.proofs.soundness.holds_end_within_the_size.Goals as goal

pub returns : goal.returns
returns c = held_within-good
