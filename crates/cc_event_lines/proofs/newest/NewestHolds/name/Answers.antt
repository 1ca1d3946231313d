use Rattle.cc_event_lines.proofs.newest.NewestHolds.name.Goals as goal

pub returns-clause-named : goal.returns-clause-named
returns-clause-named c me word =
    let updates = rw c.unwrap-old.ensures at c.insert.ensures.updates in updates.0 (me, word)
