use Rattle.cc_redo.proofs.Again.{page-again, page-from, valid-again}
use Rattle.cc_redo.proofs.laws.redoing_again_makes_the_same.Goals as goal

pub returns-clause-page : goal.returns-clause-page
returns-clause-page c = page-again

pub returns-clause-rest : goal.returns-clause-rest
returns-clause-rest c = page-from

pub returns-clause-valid : goal.returns-clause-valid
returns-clause-valid c = valid-again
