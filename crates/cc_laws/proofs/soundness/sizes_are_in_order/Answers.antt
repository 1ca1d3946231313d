use Rattle.cc_laws.proofs.SoundFacts.{valid_of-good, size_of-good}
use Rattle.cc_laws.proofs.soundness.sizes_are_in_order.Goals as goal

pub returns-clause-valid_within : goal.returns-clause-valid_within
returns-clause-valid_within c = valid_of-good

pub returns-clause-size_in_range : goal.returns-clause-size_in_range
returns-clause-size_in_range c = size_of-good
