-- One visit that may reserve a place and places nothing.
use Rattle.std.proofs.Common.{subst, sym}
use Rattle.cc_turns.specs.Standing.{Standing}
use Rattle.cc_writes.proofs.OneVisit.{visiting}
use Rattle.cc_writes.proofs.Visiting.{few-left}
use Rattle.cc_calls.specs.Logs.{HadRoom}
use Rattle.cc_calls.proofs.LogCalls.{few-after, flight_after, place-room, place-visited}
use Rattle.cc_calls.proofs.logs.reserve_for.Goals as goal

pub give_journal-requires-clause-adds : goal.give_journal-requires-clause-adds
give_journal-requires-clause-adds g c =
    let w = g.T.Turns.standing c.args.turns.now in
    let v = g.T.Turns.standing c.take_journal-journal.new.self in
    let vis = visiting g.T.Post.PostRoutine.posted w v c.take_journal-journal.result c.take_journal-journal.ensures.took c.take_journal-journal.ensures.stands in
    (place-visited g.T.Post.PostRoutine.posted w v c.args.handle c.reserve_in-reserved.result c.take_journal-journal.result c.reserve_in-reserved.new.journal c.requires.away vis c.reserve_in-reserved.ensures).adds

pub give_journal-requires-clause-stands : goal.give_journal-requires-clause-stands
give_journal-requires-clause-stands g c =
    let w = g.T.Turns.standing c.args.turns.now in
    let v = g.T.Turns.standing c.take_journal-journal.new.self in
    let vis = visiting g.T.Post.PostRoutine.posted w v c.take_journal-journal.result c.take_journal-journal.ensures.took c.take_journal-journal.ensures.stands in
    (place-visited g.T.Post.PostRoutine.posted w v c.args.handle c.reserve_in-reserved.result c.take_journal-journal.result c.reserve_in-reserved.new.journal c.requires.away vis c.reserve_in-reserved.ensures).journal

pub give_journal-requires-clause-few : goal.give_journal-requires-clause-few
give_journal-requires-clause-few g c =
    let w = g.T.Turns.standing c.args.turns.now in
    let v = g.T.Turns.standing c.take_journal-journal.new.self in
    let vis = visiting g.T.Post.PostRoutine.posted w v c.take_journal-journal.result c.take_journal-journal.ensures.took c.take_journal-journal.ensures.stands in
    few-left (flight_after c.reserve_in-reserved.result w.in_flight)
    (place-visited g.T.Post.PostRoutine.posted w v c.args.handle c.reserve_in-reserved.result c.take_journal-journal.result c.reserve_in-reserved.new.journal c.requires.away vis c.reserve_in-reserved.ensures).went (few-after c.reserve_in-reserved.result w.in_flight c.requires.none)

pub returns-clause-room : goal.returns-clause-room
returns-clause-room g c =
    let w = g.T.Turns.standing c.args.turns.now in
    let v = g.T.Turns.standing c.take_journal-journal.new.self in
    let vis = visiting g.T.Post.PostRoutine.posted w v c.take_journal-journal.result c.take_journal-journal.ensures.took c.take_journal-journal.ensures.stands in
    subst (λ (x : Standing). HadRoom x c.reserve_in-reserved.result) (sym c.give_journal.ensures)
    (place-room g.T.Post.PostRoutine.posted w v c.args.handle c.reserve_in-reserved.result c.take_journal-journal.result c.reserve_in-reserved.new.journal c.requires.away vis c.reserve_in-reserved.ensures)
