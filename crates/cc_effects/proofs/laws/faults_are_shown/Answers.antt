use Rattle.cc_effects.proofs.Licences.{read-fault-shown, write-fault-shown, log-fault-shown}
use Rattle.cc_effects.proofs.laws.faults_are_shown.Goals as goal

pub returns-clause-read : goal.returns-clause-read
returns-clause-read c = read-fault-shown

pub returns-clause-write : goal.returns-clause-write
returns-clause-write c = write-fault-shown

pub returns-clause-log : goal.returns-clause-log
returns-clause-log c = log-fault-shown
