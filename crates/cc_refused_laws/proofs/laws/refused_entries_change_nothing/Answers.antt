use Rattle.cc_refused_laws.proofs.Entries.{keeps-refused}
use Rattle.cc_refused_laws.proofs.laws.refused_entries_change_nothing.Goals as goal

pub returns : goal.returns
returns c = λ pass nth stream it e past. keeps-refused pass nth stream it e past
