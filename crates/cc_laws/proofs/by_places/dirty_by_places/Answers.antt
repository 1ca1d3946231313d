use Rattle.cc_laws.proofs.PlacesDirty.{dirty-places, unwritten-places, unwritten-order}
use Rattle.cc_laws.proofs.by_places.dirty_by_places.Goals as goal

pub returns-clause-dirty : goal.returns-clause-dirty
returns-clause-dirty c = dirty-places

pub returns-clause-touches : goal.returns-clause-touches
returns-clause-touches c = unwritten-places

pub returns-clause-order : goal.returns-clause-order
returns-clause-order c = unwritten-order
