use Rattle.cc_effects.proofs.FrontLaws.{may-stand}
use Rattle.cc_effects.proofs.laws.entries_may_stand_where_they_do.Goals as goal

pub returns : goal.returns
returns c = may-stand
