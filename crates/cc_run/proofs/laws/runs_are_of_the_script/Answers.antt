-- What a run says of its script and its text, by whether there is a script.
use Rattle.cc_run.proofs.Statuses.{made-at, asked-at, printed-at, empty-at}
use Rattle.cc_run.proofs.laws.runs_are_of_the_script.Goals as goal

pub returns-clause-made : goal.returns-clause-made
returns-clause-made c = made-at

pub returns-clause-asked : goal.returns-clause-asked
returns-clause-asked c = asked-at

pub returns-clause-printed : goal.returns-clause-printed
returns-clause-printed c = printed-at

pub returns-clause-empty : goal.returns-clause-empty
returns-clause-empty c = empty-at
