-- One visit that places nothing and gives back the place that was kept.
use Rattle.std.proofs.Common.{ap, sym, subst, arith}
use Rattle.cc_turns.specs.Standing.{Standing, TurnsHeld}
use Rattle.cc_writes.specs.Hands.{WentWith}
use Rattle.cc_writes.proofs.OneVisit.{visiting}
use Rattle.cc_writes.proofs.Releasing.{book_released, disk_released, idle, rest_released}
use Rattle.cc_writes.proofs.Visiting.{few-left}
use Rattle.cc_ranges.proofs.EndVisits.{forgone, forgone-spare}
use Rattle.cc_ranges.proofs.ends.forgo_at.Goals as goal

pub give_back-requires : goal.give_back-requires
give_back-requires g c =
    let w = g.T.Turns.standing c.args.turns.now in
    let v = g.T.Turns.standing c.take_journal-journal.new.self in
    let posted = g.T.Post.PostRoutine.posted in
    let j = c.take_journal-journal.result in
    let vis = visiting posted w v j c.take_journal-journal.ensures.took c.take_journal-journal.ensures.stands in
    forgone-spare posted w v c.args.kept j vis c.requires.kept

pub give_journal-requires-clause-adds : goal.give_journal-requires-clause-adds
give_journal-requires-clause-adds g c =
    let w = g.T.Turns.standing c.args.turns.now in
    let v = g.T.Turns.standing c.take_journal-journal.new.self in
    let posted = g.T.Post.PostRoutine.posted in
    let j = c.take_journal-journal.result in
    let vis = visiting posted w v j c.take_journal-journal.ensures.took c.take_journal-journal.ensures.stands in
    (forgone posted w v c.args.kept j c.give_back.new.journal (ap (λ (h : TurnsHeld). h.journal) c.requires.book.held) vis c.requires.kept c.give_back.ensures).adds

pub give_journal-requires-clause-stands : goal.give_journal-requires-clause-stands
give_journal-requires-clause-stands g c =
    let w = g.T.Turns.standing c.args.turns.now in
    let v = g.T.Turns.standing c.take_journal-journal.new.self in
    let posted = g.T.Post.PostRoutine.posted in
    let j = c.take_journal-journal.result in
    let vis = visiting posted w v j c.take_journal-journal.ensures.took c.take_journal-journal.ensures.stands in
    (forgone posted w v c.args.kept j c.give_back.new.journal (ap (λ (h : TurnsHeld). h.journal) c.requires.book.held) vis c.requires.kept c.give_back.ensures).journal

pub give_journal-requires-clause-few : goal.give_journal-requires-clause-few
give_journal-requires-clause-few g c =
    let w = g.T.Turns.standing c.args.turns.now in
    let v = g.T.Turns.standing c.take_journal-journal.new.self in
    let posted = g.T.Post.PostRoutine.posted in
    let j = c.take_journal-journal.result in
    let vis = visiting posted w v j c.take_journal-journal.ensures.took c.take_journal-journal.ensures.stands in
    few-left 0 (forgone posted w v c.args.kept j c.give_back.new.journal (ap (λ (h : TurnsHeld). h.journal) c.requires.book.held) vis c.requires.kept c.give_back.ensures).went (omega arith)

pub returns-clause-went : goal.returns-clause-went
returns-clause-went g c =
    let w = g.T.Turns.standing c.args.turns.now in
    let v = g.T.Turns.standing c.take_journal-journal.new.self in
    let posted = g.T.Post.PostRoutine.posted in
    let j = c.take_journal-journal.result in
    let vis = visiting posted w v j c.take_journal-journal.ensures.took c.take_journal-journal.ensures.stands in
    subst (λ (x : Standing). WentWith 0 w x) (sym c.give_journal.ensures) (forgone posted w v c.args.kept j c.give_back.new.journal (ap (λ (h : TurnsHeld). h.journal) c.requires.book.held) vis c.requires.kept c.give_back.ensures).went

pub returns-clause-book : goal.returns-clause-book
returns-clause-book g c =
    let w = g.T.Turns.standing c.args.turns.now in
    let v = g.T.Turns.standing c.take_journal-journal.new.self in
    let posted = g.T.Post.PostRoutine.posted in
    let j = c.take_journal-journal.result in
    book_released posted w v j c.give_back.new.journal c.take_journal-journal.ensures.took c.take_journal-journal.ensures.stands c.give_back.ensures
    (g.T.Turns.standing c.give_journal.new.self) c.give_journal.ensures (ap (λ (h : TurnsHeld). h.journal) c.requires.book.held) c.args.page.stream c.args.book.now c.requires.book

pub returns-clause-rest : goal.returns-clause-rest
returns-clause-rest g c =
    let w = g.T.Turns.standing c.args.turns.now in
    let v = g.T.Turns.standing c.take_journal-journal.new.self in
    let posted = g.T.Post.PostRoutine.posted in
    let j = c.take_journal-journal.result in
    rest_released posted w v j c.give_back.new.journal c.take_journal-journal.ensures.took c.take_journal-journal.ensures.stands c.give_back.ensures
    (g.T.Turns.standing c.give_journal.new.self) c.give_journal.ensures (ap (λ (h : TurnsHeld). h.journal) c.requires.book.held) c.args.page.stream c.requires.rest

pub returns-clause-disk : goal.returns-clause-disk
returns-clause-disk g c =
    let w = g.T.Turns.standing c.args.turns.now in
    let v = g.T.Turns.standing c.take_journal-journal.new.self in
    let posted = g.T.Post.PostRoutine.posted in
    let j = c.take_journal-journal.result in
    disk_released posted w v j c.give_back.new.journal c.take_journal-journal.ensures.took c.take_journal-journal.ensures.stands c.give_back.ensures
    (g.T.Turns.standing c.give_journal.new.self) c.give_journal.ensures (ap (λ (h : TurnsHeld). h.journal) c.requires.book.held) c.args.page.stream c.requires.rest.device

pub returns-clause-idle : goal.returns-clause-idle
returns-clause-idle g c =
    let w = g.T.Turns.standing c.args.turns.now in
    let v = g.T.Turns.standing c.take_journal-journal.new.self in
    let posted = g.T.Post.PostRoutine.posted in
    let j = c.take_journal-journal.result in
    idle posted w v j c.give_back.new.journal c.take_journal-journal.ensures.took c.take_journal-journal.ensures.stands c.give_back.ensures
    (g.T.Turns.standing c.give_journal.new.self) c.give_journal.ensures (ap (λ (h : TurnsHeld). h.journal) c.requires.book.held)
