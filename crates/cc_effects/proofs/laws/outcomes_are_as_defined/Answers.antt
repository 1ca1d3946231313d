use Rattle.cc_effects.proofs.FrontLaws.{outcome-defined}
use Rattle.cc_effects.proofs.laws.outcomes_are_as_defined.Goals as goal

pub returns : goal.returns
returns c = outcome-defined
