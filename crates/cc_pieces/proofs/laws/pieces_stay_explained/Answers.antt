use Rattle.cc_pieces.proofs.LineSteps.{explains-after, explains-before}
use Rattle.cc_pieces.proofs.laws.pieces_stay_explained.Goals as goal

pub returns-clause-after : goal.returns-clause-after
returns-clause-after c = explains-after

pub returns-clause-before : goal.returns-clause-before
returns-clause-before c = explains-before
