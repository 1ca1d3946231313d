use Rattle.cc_script.proofs.PathTexts.{paths_differ, paths_found}
use Rattle.cc_script.proofs.laws.paths_differ.Goals as goal

pub returns-clause-differ : goal.returns-clause-differ
returns-clause-differ c = paths_differ

pub returns-clause-found : goal.returns-clause-found
returns-clause-found c = paths_found
