-- One visit: the entry keeps the journal good, on the reserved place, and is given with the turn.
use Rattle.std.proofs.Common.{sym, subst, arith}
use Rattle.cc_model.specs.Good.{IsGood}
use Rattle.cc_turns.specs.Standing.{Standing}
use Rattle.cc_writes.specs.Hands.{WentWith}
use Rattle.cc_writes.proofs.Visiting.{few-left}
use Rattle.cc_writes.proofs.OneVisit.{visiting}
use Rattle.cc_stored.proofs.Noting.{may_note-pushed, noted}
use Rattle.cc_stored.proofs.visits.place_held.Goals as goal

pub push-requires-clause-may : goal.push-requires-clause-may
push-requires-clause-may g c =
    let w = g.T.Turns.standing c.args.turns.now in
    let v = g.T.Turns.standing c.take_journal-journal.new.self in
    let vis = visiting g.T.Post.PostRoutine.posted w v c.take_journal-journal.result c.take_journal-journal.ensures.took c.take_journal-journal.ensures.stands in
    may_note-pushed g.T.Post.PostRoutine.posted w v c.args.entry c.take_journal-journal.result c.requires.may vis

pub give_journal-requires-clause-adds : goal.give_journal-requires-clause-adds
give_journal-requires-clause-adds g c =
    let w = g.T.Turns.standing c.args.turns.now in
    let v = g.T.Turns.standing c.take_journal-journal.new.self in
    let vis = visiting g.T.Post.PostRoutine.posted w v c.take_journal-journal.result c.take_journal-journal.ensures.took c.take_journal-journal.ensures.stands in
    (noted g.T.Post.PostRoutine.posted w v c.args.entry c.take_journal-journal.result c.push.new.self c.requires.away c.requires.reserved c.requires.may vis c.push.ensures.placed).adds

pub give_journal-requires-clause-stands : goal.give_journal-requires-clause-stands
give_journal-requires-clause-stands g c =
    let w = g.T.Turns.standing c.args.turns.now in
    let v = g.T.Turns.standing c.take_journal-journal.new.self in
    let vis = visiting g.T.Post.PostRoutine.posted w v c.take_journal-journal.result c.take_journal-journal.ensures.took c.take_journal-journal.ensures.stands in
    (noted g.T.Post.PostRoutine.posted w v c.args.entry c.take_journal-journal.result c.push.new.self c.requires.away c.requires.reserved c.requires.may vis c.push.ensures.placed).journal

pub give_journal-requires-clause-few : goal.give_journal-requires-clause-few
give_journal-requires-clause-few g c =
    let w = g.T.Turns.standing c.args.turns.now in
    let v = g.T.Turns.standing c.take_journal-journal.new.self in
    let vis = visiting g.T.Post.PostRoutine.posted w v c.take_journal-journal.result c.take_journal-journal.ensures.took c.take_journal-journal.ensures.stands in
    few-left 0 (noted g.T.Post.PostRoutine.posted w v c.args.entry c.take_journal-journal.result c.push.new.self c.requires.away c.requires.reserved c.requires.may vis c.push.ensures.placed).went (omega arith)

pub returns-clause-good : goal.returns-clause-good
returns-clause-good g c =
    let w = g.T.Turns.standing c.args.turns.now in
    let v = g.T.Turns.standing c.take_journal-journal.new.self in
    let vis = visiting g.T.Post.PostRoutine.posted w v c.take_journal-journal.result c.take_journal-journal.ensures.took c.take_journal-journal.ensures.stands in
    subst (λ (x : Standing). IsGood x.setup x.seen) (sym c.give_journal.ensures)
    (noted g.T.Post.PostRoutine.posted w v c.args.entry c.take_journal-journal.result c.push.new.self c.requires.away c.requires.reserved c.requires.may vis c.push.ensures.placed).good

pub returns-clause-went : goal.returns-clause-went
returns-clause-went g c =
    let w = g.T.Turns.standing c.args.turns.now in
    let v = g.T.Turns.standing c.take_journal-journal.new.self in
    let vis = visiting g.T.Post.PostRoutine.posted w v c.take_journal-journal.result c.take_journal-journal.ensures.took c.take_journal-journal.ensures.stands in
    subst (λ (x : Standing). WentWith 0 w x) (sym c.give_journal.ensures)
    (noted g.T.Post.PostRoutine.posted w v c.args.entry c.take_journal-journal.result c.push.new.self c.requires.away c.requires.reserved c.requires.may vis c.push.ensures.placed).went
