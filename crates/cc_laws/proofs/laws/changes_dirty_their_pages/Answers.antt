use Rattle.cc_laws.proofs.DirtyLaws.{is_dirty-written, is_dirty-zeroed, is_dirty-stored, is_dirty-stamped}
use Rattle.cc_laws.proofs.laws.changes_dirty_their_pages.Goals as goal

pub returns-clause-writes : goal.returns-clause-writes
returns-clause-writes c = is_dirty-written

pub returns-clause-zeroings : goal.returns-clause-zeroings
returns-clause-zeroings c = is_dirty-zeroed

pub returns-clause-stores : goal.returns-clause-stores
returns-clause-stores c = is_dirty-stored

pub returns-clause-set_dirty : goal.returns-clause-set_dirty
returns-clause-set_dirty c = is_dirty-stamped
