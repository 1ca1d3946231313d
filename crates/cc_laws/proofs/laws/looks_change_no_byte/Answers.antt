use Rattle.std.specs.Prelude.{false}
use Rattle.cc_laws.proofs.ByteLaws.{byte_of-looks}
use Rattle.cc_laws.proofs.TouchSteps.{touches-looks}
use Rattle.cc_laws.proofs.laws.looks_change_no_byte.Goals as goal

pub returns-clause-bytes : goal.returns-clause-bytes
returns-clause-bytes c = byte_of-looks

pub returns-clause-dirty : goal.returns-clause-dirty
returns-clause-dirty c = touches-looks false
