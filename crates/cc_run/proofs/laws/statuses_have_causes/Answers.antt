-- Each status, by the cause of a run that was not made, or of a text that was not written.
use Rattle.cc_run.proofs.Statuses.{usage-at, syntax-at, read_fault-at, write_fault-at, too_long-at, too_few-at}
use Rattle.cc_run.proofs.laws.statuses_have_causes.Goals as goal

pub returns-clause-usage : goal.returns-clause-usage
returns-clause-usage c = usage-at

pub returns-clause-syntax : goal.returns-clause-syntax
returns-clause-syntax c = syntax-at

pub returns-clause-read_fault : goal.returns-clause-read_fault
returns-clause-read_fault c = read_fault-at

pub returns-clause-write_fault : goal.returns-clause-write_fault
returns-clause-write_fault c = write_fault-at

pub returns-clause-too_long : goal.returns-clause-too_long
returns-clause-too_long c = too_long-at

pub returns-clause-too_few : goal.returns-clause-too_few
returns-clause-too_few c = too_few-at
