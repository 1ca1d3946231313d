use Rattle.cc_journal.proofs.places.HoldPlaces.set.Goals as goal

-- src/places.rt:62:5
pub returns-clause-sets : goal.returns-clause-sets
returns-clause-sets c s i =
    let updates = rw c.number.ensures.same at (rw c.unwrap-old.ensures at c.insert.ensures.updates) in updates.0 (s, i)
