use Rattle.cc_own.proofs.CallsKeep.{call-keeps, failed-keeps, done-leaves}
use Rattle.cc_own.proofs.laws.calls_leave_holds.Goals as goal

pub returns-clause-unchanged : goal.returns-clause-unchanged
returns-clause-unchanged c = call-keeps

pub returns-clause-failed : goal.returns-clause-failed
returns-clause-failed c = failed-keeps

pub returns-clause-done : goal.returns-clause-done
returns-clause-done c = done-leaves
