use Rattle.std.proofs.Common.{sym}
use Rattle.cc_restart_laws.proofs.Again.{again-file, made-file, valid-more}
use Rattle.cc_restart_laws.proofs.Raised.{makes-same}
use Rattle.cc_restart_laws.proofs.Redoing.{valid-same}
use Rattle.cc_restart_laws.proofs.laws.restarts_make_the_file.Goals as goal

pub returns-clause-made : goal.returns-clause-made
returns-clause-made c = made-file

pub returns-clause-again : goal.returns-clause-again
returns-clause-again c = again-file

pub returns-clause-raised : goal.returns-clause-raised
returns-clause-raised c = makes-same

pub returns-clause-valid : goal.returns-clause-valid
returns-clause-valid c = valid-more

pub returns-clause-greatest : goal.returns-clause-greatest
returns-clause-greatest c = λ kept redo. sym (valid-same redo kept redo.valid)
