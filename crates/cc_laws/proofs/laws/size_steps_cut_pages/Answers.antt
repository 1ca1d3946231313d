use Rattle.cc_laws.proofs.DirtyLaws.{is_dirty-resized}
use Rattle.cc_laws.proofs.ByteLaws.{byte_of-resized}
use Rattle.cc_laws.proofs.laws.size_steps_cut_pages.Goals as goal

pub returns-clause-dirty : goal.returns-clause-dirty
returns-clause-dirty c = is_dirty-resized

pub returns-clause-zeros : goal.returns-clause-zeros
returns-clause-zeros c = λ pages pass call reply h allocation size i is from_on. byte_of-resized pages pass call reply h i is from_on
