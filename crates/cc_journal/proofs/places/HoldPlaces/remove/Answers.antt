use Rattle.cc_journal.proofs.places.HoldPlaces.remove.Goals as goal

-- src/places.rt:70:5
pub returns-clause-sets : goal.returns-clause-sets
returns-clause-sets c s i = let updates = rw c.number.ensures.same at c.swap_remove.ensures.updates in updates.0 (s, i)
