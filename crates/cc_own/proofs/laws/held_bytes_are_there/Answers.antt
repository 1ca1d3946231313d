use Rattle.cc_own.proofs.HeldPages.{held-resident, held-within}
use Rattle.cc_own.proofs.laws.held_bytes_are_there.Goals as goal

pub returns-clause-resident : goal.returns-clause-resident
returns-clause-resident c = held-resident

pub returns-clause-within : goal.returns-clause-within
returns-clause-within c = held-within
