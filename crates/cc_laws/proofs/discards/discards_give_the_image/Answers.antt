use Rattle.cc_laws.proofs.DiscardLaws.{byte_of-discard_dirty, byte_of-discard_clean}
use Rattle.cc_laws.proofs.discards.discards_give_the_image.Goals as goal

pub returns-clause-dirty : goal.returns-clause-dirty
returns-clause-dirty c = λ pages pass call reply h span. byte_of-discard_dirty pass call reply h span pages

pub returns-clause-clean : goal.returns-clause-clean
returns-clause-clean c = λ pages pass call reply h span. byte_of-discard_clean pass call reply h span pages
