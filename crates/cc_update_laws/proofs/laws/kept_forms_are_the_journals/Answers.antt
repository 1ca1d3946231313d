use Rattle.cc_update_laws.proofs.Whole.{keeps-each, whole-updated}
use Rattle.cc_update_laws.proofs.laws.kept_forms_are_the_journals.Goals as goal

pub returns-clause-whole : goal.returns-clause-whole
returns-clause-whole c = whole-updated

pub returns-clause-each : goal.returns-clause-each
returns-clause-each c = keeps-each
