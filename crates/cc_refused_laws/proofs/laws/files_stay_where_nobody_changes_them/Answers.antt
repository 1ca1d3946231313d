use Rattle.cc_refused_laws.proofs.Steps.{files-stay, all-stays}
use Rattle.cc_refused_laws.proofs.laws.files_stay_where_nobody_changes_them.Goals as goal

pub returns-clause-files : goal.returns-clause-files
returns-clause-files c = files-stay

pub returns-clause-nothing : goal.returns-clause-nothing
returns-clause-nothing c = all-stays
