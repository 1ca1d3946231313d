use Rattle.cc_laws.proofs.StoreLaws.{byte_of-stored, byte_of-past_store}
use Rattle.cc_laws.proofs.laws.stores_change_their_bytes.Goals as goal

pub returns-clause-given : goal.returns-clause-given
returns-clause-given c = λ pages pass call reply h page bytes i is covered. byte_of-stored pages pass call reply h i is covered

pub returns-clause-others : goal.returns-clause-others
returns-clause-others c = λ pages pass call reply h page bytes i is valid past. byte_of-past_store pages pass call reply h i is valid past
