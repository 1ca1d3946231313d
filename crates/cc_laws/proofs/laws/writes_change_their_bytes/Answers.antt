use Rattle.cc_laws.proofs.ByteLaws.{byte_of-written, byte_of-past_write}
use Rattle.cc_laws.proofs.laws.writes_change_their_bytes.Goals as goal

pub returns-clause-given : goal.returns-clause-given
returns-clause-given c = λ pages pass call reply h at bytes k is inside. byte_of-written pages pass call reply h k is inside

pub returns-clause-others : goal.returns-clause-others
returns-clause-others c = λ pages pass call reply h at bytes i is valid past. byte_of-past_write pages pass call reply h i is valid past
