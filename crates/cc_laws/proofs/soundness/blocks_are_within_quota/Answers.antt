use Rattle.cc_laws.proofs.SoundFacts.{within_quota-good}
use Rattle.cc_laws.proofs.soundness.blocks_are_within_quota.Goals as goal

pub returns : goal.returns
returns c = within_quota-good
