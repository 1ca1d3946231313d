use Rattle.std.proofs.Common.{refl}
use Rattle.cc_locks.specs.Place.{class_of}
use Rattle.cc_locks.proofs.place.class_of.Goals as goal

pub returns-clause-class : goal.returns-clause-class
unfolding class_of
returns-clause-class c = rw (c.to.ensures.same, c.from.ensures.same) refl
