-- One visit that may reserve a place and places nothing.
use Rattle.cc_writes.proofs.OneVisit.{visiting}
use Rattle.cc_writes.proofs.Visiting.{few-left}
use Rattle.cc_stored.proofs.Noting.{few-after, flight_after, reserved-visited}
use Rattle.cc_stored.proofs.visits.reserve_one.Goals as goal

pub give_journal-requires-clause-adds : goal.give_journal-requires-clause-adds
give_journal-requires-clause-adds g c =
    let w = g.T.Turns.standing c.args.turns.now in
    let v = g.T.Turns.standing c.take_journal-journal.new.self in
    let vis = visiting g.T.Post.PostRoutine.posted w v c.take_journal-journal.result c.take_journal-journal.ensures.took c.take_journal-journal.ensures.stands in
    (reserved-visited g.T.Post.PostRoutine.posted w v c.reserve_in-reserved.result c.take_journal-journal.result c.reserve_in-reserved.new.journal c.requires.away vis c.reserve_in-reserved.ensures).adds

pub give_journal-requires-clause-stands : goal.give_journal-requires-clause-stands
give_journal-requires-clause-stands g c =
    let w = g.T.Turns.standing c.args.turns.now in
    let v = g.T.Turns.standing c.take_journal-journal.new.self in
    let vis = visiting g.T.Post.PostRoutine.posted w v c.take_journal-journal.result c.take_journal-journal.ensures.took c.take_journal-journal.ensures.stands in
    (reserved-visited g.T.Post.PostRoutine.posted w v c.reserve_in-reserved.result c.take_journal-journal.result c.reserve_in-reserved.new.journal c.requires.away vis c.reserve_in-reserved.ensures).journal

pub give_journal-requires-clause-few : goal.give_journal-requires-clause-few
give_journal-requires-clause-few g c =
    let w = g.T.Turns.standing c.args.turns.now in
    let v = g.T.Turns.standing c.take_journal-journal.new.self in
    let vis = visiting g.T.Post.PostRoutine.posted w v c.take_journal-journal.result c.take_journal-journal.ensures.took c.take_journal-journal.ensures.stands in
    few-left (flight_after c.reserve_in-reserved.result w.in_flight)
    (reserved-visited g.T.Post.PostRoutine.posted w v c.reserve_in-reserved.result c.take_journal-journal.result c.reserve_in-reserved.new.journal c.requires.away vis c.reserve_in-reserved.ensures).went (few-after c.reserve_in-reserved.result w.in_flight c.requires.none)
