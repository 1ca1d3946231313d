use Rattle.cc_script.proofs.VerbTexts.{verbs_differ, verbs_found, verbs_no_callers}
use Rattle.cc_script.proofs.laws.verbs_differ.Goals as goal

pub returns-clause-differ : goal.returns-clause-differ
returns-clause-differ c = verbs_differ

pub returns-clause-found : goal.returns-clause-found
returns-clause-found c = verbs_found

pub returns-clause-callers : goal.returns-clause-callers
returns-clause-callers c = verbs_no_callers
