use Rattle.cc_refused_laws.proofs.Calls.{refused-files}
use Rattle.cc_refused_laws.proofs.Steps.{stepless-refused, end-not-refused}
use Rattle.cc_refused_laws.proofs.laws.refused_calls_change_no_file.Goals as goal

pub returns-clause-files : goal.returns-clause-files
returns-clause-files c = refused-files

pub returns-clause-stepless : goal.returns-clause-stepless
returns-clause-stepless c = stepless-refused

pub returns-clause-ends : goal.returns-clause-ends
returns-clause-ends c = end-not-refused
