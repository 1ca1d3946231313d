use Rattle.cc_pieces.proofs.LineSteps.{ran-idle}
use Rattle.cc_pieces.proofs.laws.others_go_on.Goals as goal

pub returns : goal.returns
returns c = ran-idle
