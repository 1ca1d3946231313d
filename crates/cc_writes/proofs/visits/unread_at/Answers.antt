-- One visit: the failed fill is placed on the journal that was taken, and halts the call; or its place is given back.
use Rattle.std.proofs.Common.{sym, subst, arith}
use Rattle.cc_turns.specs.Standing.{Standing}
use Rattle.cc_writes.specs.Hands.{HasBook, IsAtRest, WentWith}
use Rattle.cc_writes.specs.Visits.{VisitUnreadLeft, UnreadPlaced}
use Rattle.cc_writes.proofs.Landing.{has-place, unread, visited-told, rest-told, placed-told, left-told}
use Rattle.cc_writes.proofs.Visiting.{few-left, visiting}
use Rattle.cc_writes.proofs.visits.unread_at.Goals as goal

pub tell_unread-unread-requires-clause-reserved : goal.tell_unread-unread-requires-clause-reserved
tell_unread-unread-requires-clause-reserved g c =
    let w = g.T.Turns.standing c.args.turns.now in
    let v = g.T.Turns.standing c.take_journal-journal.new.self in
    let posted = g.T.Post.PostRoutine.posted in
    let b = c.args.book.now in
    let j = c.take_journal-journal.result in
    let vis = visiting posted w v b.stream b j c.requires.book c.take_journal-journal.ensures.took c.take_journal-journal.ensures.stands in
    has-place posted w v b b j j c.requires.book vis c.requires.rest c.requires.reserved

pub tell_unread-unread-requires-clause-may : goal.tell_unread-unread-requires-clause-may
tell_unread-unread-requires-clause-may g c =
    let w = g.T.Turns.standing c.args.turns.now in
    let v = g.T.Turns.standing c.take_journal-journal.new.self in
    let posted = g.T.Post.PostRoutine.posted in
    let b = c.args.book.now in
    let j = c.take_journal-journal.result in
    let vis = visiting posted w v b.stream b j c.requires.book c.take_journal-journal.ensures.took c.take_journal-journal.ensures.stands in
    (w.setup, vis.stand)

pub give_journal-requires-clause-adds : goal.give_journal-requires-clause-adds
give_journal-requires-clause-adds g c =
    let w = g.T.Turns.standing c.args.turns.now in
    let v = g.T.Turns.standing c.take_journal-journal.new.self in
    let posted = g.T.Post.PostRoutine.posted in
    let b = c.args.book.now in
    let j = c.take_journal-journal.result in
    let vis = visiting posted w v b.stream b j c.requires.book c.take_journal-journal.ensures.took c.take_journal-journal.ensures.stands in
    let k = c.tell_unread-unread.new.journal in
    let told = unread posted w v b j k c.requires.book vis c.requires.rest c.requires.reserved c.args.page c.me-pass.result c.tell_unread-unread.result c.me-pass.ensures c.tell_unread-unread.ensures in
    let given = visited-told posted w v b j k c.requires.book vis c.requires.rest c.requires.reserved c.args.page c.tell_unread-unread.result told in
    given.adds

pub give_journal-requires-clause-stands : goal.give_journal-requires-clause-stands
give_journal-requires-clause-stands g c =
    let w = g.T.Turns.standing c.args.turns.now in
    let v = g.T.Turns.standing c.take_journal-journal.new.self in
    let posted = g.T.Post.PostRoutine.posted in
    let b = c.args.book.now in
    let j = c.take_journal-journal.result in
    let vis = visiting posted w v b.stream b j c.requires.book c.take_journal-journal.ensures.took c.take_journal-journal.ensures.stands in
    let k = c.tell_unread-unread.new.journal in
    let told = unread posted w v b j k c.requires.book vis c.requires.rest c.requires.reserved c.args.page c.me-pass.result c.tell_unread-unread.result c.me-pass.ensures c.tell_unread-unread.ensures in
    let given = visited-told posted w v b j k c.requires.book vis c.requires.rest c.requires.reserved c.args.page c.tell_unread-unread.result told in
    given.journal

pub give_journal-requires-clause-few : goal.give_journal-requires-clause-few
give_journal-requires-clause-few g c =
    let w = g.T.Turns.standing c.args.turns.now in
    let v = g.T.Turns.standing c.take_journal-journal.new.self in
    let posted = g.T.Post.PostRoutine.posted in
    let b = c.args.book.now in
    let j = c.take_journal-journal.result in
    let vis = visiting posted w v b.stream b j c.requires.book c.take_journal-journal.ensures.took c.take_journal-journal.ensures.stands in
    let k = c.tell_unread-unread.new.journal in
    let told = unread posted w v b j k c.requires.book vis c.requires.rest c.requires.reserved c.args.page c.me-pass.result c.tell_unread-unread.result c.me-pass.ensures c.tell_unread-unread.ensures in
    let given = visited-told posted w v b j k c.requires.book vis c.requires.rest c.requires.reserved c.args.page c.tell_unread-unread.result told in
    few-left 0 given.went (omega arith)

pub returns-clause-book : goal.returns-clause-book
returns-clause-book g c =
    let w = g.T.Turns.standing c.args.turns.now in
    let v = g.T.Turns.standing c.take_journal-journal.new.self in
    let posted = g.T.Post.PostRoutine.posted in
    let b = c.args.book.now in
    let j = c.take_journal-journal.result in
    let vis = visiting posted w v b.stream b j c.requires.book c.take_journal-journal.ensures.took c.take_journal-journal.ensures.stands in
    let k = c.tell_unread-unread.new.journal in
    let told = unread posted w v b j k c.requires.book vis c.requires.rest c.requires.reserved c.args.page c.me-pass.result c.tell_unread-unread.result c.me-pass.ensures c.tell_unread-unread.ensures in
    let given = visited-told posted w v b j k c.requires.book vis c.requires.rest c.requires.reserved c.args.page c.tell_unread-unread.result told in
    subst (λ (x : Standing). HasBook x b.stream b) (sym c.give_journal.ensures) given.book

pub returns-clause-rest : goal.returns-clause-rest
returns-clause-rest g c =
    let w = g.T.Turns.standing c.args.turns.now in
    let v = g.T.Turns.standing c.take_journal-journal.new.self in
    let posted = g.T.Post.PostRoutine.posted in
    let b = c.args.book.now in
    let j = c.take_journal-journal.result in
    let vis = visiting posted w v b.stream b j c.requires.book c.take_journal-journal.ensures.took c.take_journal-journal.ensures.stands in
    let k = c.tell_unread-unread.new.journal in
    let told = unread posted w v b j k c.requires.book vis c.requires.rest c.requires.reserved c.args.page c.me-pass.result c.tell_unread-unread.result c.me-pass.ensures c.tell_unread-unread.ensures in
    subst (λ (x : Standing). IsAtRest x b.stream) (sym c.give_journal.ensures) (rest-told posted w v b j k c.requires.book vis c.requires.rest c.requires.reserved c.args.page c.tell_unread-unread.result told)

pub returns-clause-went : goal.returns-clause-went
returns-clause-went g c =
    let w = g.T.Turns.standing c.args.turns.now in
    let v = g.T.Turns.standing c.take_journal-journal.new.self in
    let posted = g.T.Post.PostRoutine.posted in
    let b = c.args.book.now in
    let j = c.take_journal-journal.result in
    let vis = visiting posted w v b.stream b j c.requires.book c.take_journal-journal.ensures.took c.take_journal-journal.ensures.stands in
    let k = c.tell_unread-unread.new.journal in
    let told = unread posted w v b j k c.requires.book vis c.requires.rest c.requires.reserved c.args.page c.me-pass.result c.tell_unread-unread.result c.me-pass.ensures c.tell_unread-unread.ensures in
    let given = visited-told posted w v b j k c.requires.book vis c.requires.rest c.requires.reserved c.args.page c.tell_unread-unread.result told in
    subst (λ (x : Standing). WentWith 0 w x) (sym c.give_journal.ensures) given.went

pub returns-clause-placed : goal.returns-clause-placed
returns-clause-placed g c =
    let w = g.T.Turns.standing c.args.turns.now in
    let v = g.T.Turns.standing c.take_journal-journal.new.self in
    let posted = g.T.Post.PostRoutine.posted in
    let b = c.args.book.now in
    let j = c.take_journal-journal.result in
    let vis = visiting posted w v b.stream b j c.requires.book c.take_journal-journal.ensures.took c.take_journal-journal.ensures.stands in
    let k = c.tell_unread-unread.new.journal in
    let told = unread posted w v b j k c.requires.book vis c.requires.rest c.requires.reserved c.args.page c.me-pass.result c.tell_unread-unread.result c.me-pass.ensures c.tell_unread-unread.ensures in
    subst (λ (x : Standing). UnreadPlaced w x b.stream c.args.page c.tell_unread-unread.result) (sym c.give_journal.ensures) (placed-told posted w v b j k c.requires.book vis c.requires.rest c.requires.reserved c.args.page c.tell_unread-unread.result told)

pub returns-clause-left : goal.returns-clause-left
returns-clause-left g c it begun brings way wanted =
    let w = g.T.Turns.standing c.args.turns.now in
    let v = g.T.Turns.standing c.take_journal-journal.new.self in
    let posted = g.T.Post.PostRoutine.posted in
    let b = c.args.book.now in
    let j = c.take_journal-journal.result in
    let vis = visiting posted w v b.stream b j c.requires.book c.take_journal-journal.ensures.took c.take_journal-journal.ensures.stands in
    let k = c.tell_unread-unread.new.journal in
    let told = unread posted w v b j k c.requires.book vis c.requires.rest c.requires.reserved c.args.page c.me-pass.result c.tell_unread-unread.result c.me-pass.ensures c.tell_unread-unread.ensures in
    subst (λ (x : Standing). VisitUnreadLeft w.setup w.number b.stream it c.args.page c.tell_unread-unread.result begun x.seen) (sym c.give_journal.ensures)
    (left-told posted w v b j k c.requires.book vis c.requires.rest c.requires.reserved c.args.page c.tell_unread-unread.result told it begun brings way wanted)
