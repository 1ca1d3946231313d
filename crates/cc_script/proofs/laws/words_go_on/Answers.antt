use Rattle.cc_script.proofs.UsedRight.{right-append, so_far-append, bound-count}
use Rattle.cc_script.proofs.laws.words_go_on.Goals as goal

pub returns-clause-right : goal.returns-clause-right
returns-clause-right c = right-append

pub returns-clause-adds : goal.returns-clause-adds
returns-clause-adds c = so_far-append

pub returns-clause-counted : goal.returns-clause-counted
returns-clause-counted c = bound-count
