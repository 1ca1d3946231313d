use Rattle.cc_pieces.proofs.Conflicts.{read-tested, update-tested, write-tested}
use Rattle.cc_pieces.proofs.laws.conflicts_are_tested.Goals as goal

pub returns-clause-read : goal.returns-clause-read
returns-clause-read c = λ u limit me bindings file path at len id old new it. read-tested u me file id old new path at len it.served

pub returns-clause-write : goal.returns-clause-write
returns-clause-write c = λ u limit me bindings file at bytes id old new it. write-tested u me file id old new at bytes it.served

pub returns-clause-update : goal.returns-clause-update
returns-clause-update c = λ u limit me bindings file at bytes id old new it. update-tested u me file id old new at bytes it.served
