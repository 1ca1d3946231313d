use Rattle.cc_refused_laws.proofs.Tabled.{tabled}
use Rattle.cc_refused_laws.proofs.laws.without_faults_the_table_refuses.Goals as goal

pub returns : goal.returns
returns c = tabled
