use Rattle.cc_effects.proofs.FrontLaws.{stands-after-seen}
use Rattle.cc_effects.proofs.laws.entries_stand_after_what_was_seen.Goals as goal

pub returns : goal.returns
returns c = stands-after-seen
