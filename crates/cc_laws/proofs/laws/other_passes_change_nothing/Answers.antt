use Rattle.cc_laws.proofs.PassLaws.{SamePass-others}
use Rattle.cc_laws.proofs.laws.other_passes_change_nothing.Goals as goal

pub returns : goal.returns
returns c = SamePass-others
