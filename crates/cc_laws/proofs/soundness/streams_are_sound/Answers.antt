use Rattle.cc_laws.proofs.WholeFacts.{IsSound-good}
use Rattle.cc_laws.proofs.soundness.streams_are_sound.Goals as goal

pub returns : goal.returns
returns c = IsSound-good
