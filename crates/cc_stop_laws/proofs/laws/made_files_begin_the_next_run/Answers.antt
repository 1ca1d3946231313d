use Rattle.cc_stop_laws.proofs.Runs.{made-begun, names-made}
use Rattle.cc_stop_laws.proofs.laws.made_files_begin_the_next_run.Goals as goal

pub returns-clause-begun : goal.returns-clause-begun
returns-clause-begun c = made-begun

pub returns-clause-named : goal.returns-clause-named
returns-clause-named c = names-made
