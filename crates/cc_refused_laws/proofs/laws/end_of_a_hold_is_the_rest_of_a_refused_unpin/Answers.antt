use Rattle.cc_refused_laws.proofs.Others.{unpin-files, unpin-alone}
use Rattle.cc_refused_laws.proofs.laws.end_of_a_hold_is_the_rest_of_a_refused_unpin.Goals as goal

pub returns-clause-through : goal.returns-clause-through
returns-clause-through c = unpin-files

pub returns-clause-alone : goal.returns-clause-alone
returns-clause-alone c = unpin-alone
