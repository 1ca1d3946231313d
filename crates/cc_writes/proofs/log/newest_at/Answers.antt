-- One visit that may reserve a place and places nothing: what it finds is the newest stamp of a disk at rest.
use Rattle.std.proofs.Common.{ap, ◌∙◌}
use Rattle.cc_model.specs.History.{history}
use Rattle.cc_model.specs.Images.{open_of}
use Rattle.cc_writes.proofs.Visiting.{few-left}
use Rattle.cc_writes.proofs.OneVisit.{visiting}
use Rattle.cc_writes.proofs.Logging.{flight_after, few-after, newest-visited, rest-there}
use Rattle.cc_writes.proofs.log.newest_at.Goals as goal

pub newest_reserved-newest-requires : goal.newest_reserved-newest-requires
newest_reserved-newest-requires g c = record {
  rest = ap (λ past. open_of (history past c.args.page.stream)) c.take_journal-journal.ensures.stands.entries_are
      ∙ rest-there (g.T.Turns.standing c.args.turns.now) (g.T.Turns.standing c.take_journal-journal.new.self) c.args.page.stream c.take_journal-journal.ensures.took c.requires.rest;
}

pub give_journal-requires-clause-adds : goal.give_journal-requires-clause-adds
give_journal-requires-clause-adds g c =
    let w = g.T.Turns.standing c.args.turns.now in
    let v = g.T.Turns.standing c.take_journal-journal.new.self in
    let vis = visiting g.T.Post.PostRoutine.posted w v c.take_journal-journal.result c.take_journal-journal.ensures.took c.take_journal-journal.ensures.stands in
    (newest-visited g.T.Post.PostRoutine.posted w v c.args.page c.newest_reserved-newest.result c.take_journal-journal.result c.newest_reserved-newest.new.journal c.requires.away vis c.newest_reserved-newest.ensures).adds

pub give_journal-requires-clause-stands : goal.give_journal-requires-clause-stands
give_journal-requires-clause-stands g c =
    let w = g.T.Turns.standing c.args.turns.now in
    let v = g.T.Turns.standing c.take_journal-journal.new.self in
    let vis = visiting g.T.Post.PostRoutine.posted w v c.take_journal-journal.result c.take_journal-journal.ensures.took c.take_journal-journal.ensures.stands in
    (newest-visited g.T.Post.PostRoutine.posted w v c.args.page c.newest_reserved-newest.result c.take_journal-journal.result c.newest_reserved-newest.new.journal c.requires.away vis c.newest_reserved-newest.ensures).journal

pub give_journal-requires-clause-few : goal.give_journal-requires-clause-few
give_journal-requires-clause-few g c =
    let w = g.T.Turns.standing c.args.turns.now in
    let v = g.T.Turns.standing c.take_journal-journal.new.self in
    let vis = visiting g.T.Post.PostRoutine.posted w v c.take_journal-journal.result c.take_journal-journal.ensures.took c.take_journal-journal.ensures.stands in
    few-left (flight_after c.newest_reserved-newest.result w.in_flight)
    (newest-visited g.T.Post.PostRoutine.posted w v c.args.page c.newest_reserved-newest.result c.take_journal-journal.result c.newest_reserved-newest.new.journal c.requires.away vis c.newest_reserved-newest.ensures).went (few-after c.newest_reserved-newest.result w.in_flight c.requires.none)
