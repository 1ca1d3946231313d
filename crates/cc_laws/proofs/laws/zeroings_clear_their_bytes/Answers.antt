use Rattle.cc_laws.proofs.ByteLaws.{byte_of-zeroed, byte_of-past_zero}
use Rattle.cc_laws.proofs.laws.zeroings_clear_their_bytes.Goals as goal

pub returns-clause-cleared : goal.returns-clause-cleared
returns-clause-cleared c = λ pages pass call reply h from to i is from_on before. byte_of-zeroed pages pass call reply h i is from_on before

pub returns-clause-others : goal.returns-clause-others
returns-clause-others c = λ pages pass call reply h from to i is valid past. byte_of-past_zero pages pass call reply h i is valid past
