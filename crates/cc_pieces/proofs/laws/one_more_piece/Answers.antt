use Rattle.cc_pieces.proofs.LineSteps.{ran-more}
use Rattle.cc_pieces.proofs.laws.one_more_piece.Goals as goal

pub returns : goal.returns
returns c = ran-more
