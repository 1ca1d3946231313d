-- One visit: a write whose page is on the disk may end on the journal that was taken, and its entry is good and is given
-- with it.
use Rattle.std.proofs.Common.{◌≡◌, ap, sym, ◌∙◌, subst, arith}
use Rattle.cc_turns.specs.Standing.{Standing}
use Rattle.cc_writes.specs.Hands.{HasBook, IsAtRest, WentWith}
use Rattle.cc_writes.proofs.Visiting.{few-left}
use Rattle.cc_writes.proofs.OneVisit.{visiting}
use Rattle.cc_ranges.specs.Ends.{HasEndedWrite}
use Rattle.cc_ranges.proofs.EndVisits.{may-finish-visit, finishing}
use Rattle.cc_ranges.proofs.ends.done_at.Goals as goal

pub end-requires-clause-may : goal.end-requires-clause-may
end-requires-clause-may g c =
    let w = g.T.Turns.standing c.args.turns.now in
    let v = g.T.Turns.standing c.take_journal-journal.new.self in
    let posted = g.T.Post.PostRoutine.posted in
    let j = c.take_journal-journal.result in
    let vis = visiting posted w v j c.take_journal-journal.ensures.took c.take_journal-journal.ensures.stands in
    let me : c.me-pass.result ≡ w.number = c.me-pass.ensures ∙ ap (λ (y : Standing). y.number) c.take_journal-journal.ensures.took.same in
    (w.setup, may-finish-visit posted w v c.args.file c.args.page c.args.book.now j c.requires.book c.requires.rest c.requires.here vis c.me-pass.result me c.requires.finishes)

pub end-requires-clause-stream : goal.end-requires-clause-stream
end-requires-clause-stream g c =
    let w = g.T.Turns.standing c.args.turns.now in
    let v = g.T.Turns.standing c.take_journal-journal.new.self in
    let posted = g.T.Post.PostRoutine.posted in
    let j = c.take_journal-journal.result in
    let vis = visiting posted w v j c.take_journal-journal.ensures.took c.take_journal-journal.ensures.stands in
    let me : c.me-pass.result ≡ w.number = c.me-pass.ensures ∙ ap (λ (y : Standing). y.number) c.take_journal-journal.ensures.took.same in
    sym c.requires.book.stream

pub give_journal-requires-clause-adds : goal.give_journal-requires-clause-adds
give_journal-requires-clause-adds g c =
    let w = g.T.Turns.standing c.args.turns.now in
    let v = g.T.Turns.standing c.take_journal-journal.new.self in
    let posted = g.T.Post.PostRoutine.posted in
    let j = c.take_journal-journal.result in
    let vis = visiting posted w v j c.take_journal-journal.ensures.took c.take_journal-journal.ensures.stands in
    let me : c.me-pass.result ≡ w.number = c.me-pass.ensures ∙ ap (λ (y : Standing). y.number) c.take_journal-journal.ensures.took.same in
    let e = finishing posted w v c.args.file c.args.page c.args.book.now j c.requires.book c.requires.rest c.requires.here vis c.me-pass.result me c.requires.finishes
    c.end.new.book c.end.new.journal c.end.ensures.stream (c.end.ensures.ended w.setup (may-finish-visit posted w v c.args.file c.args.page c.args.book.now j c.requires.book c.requires.rest c.requires.here vis c.me-pass.result me c.requires.finishes)) in
    e.adds

pub give_journal-requires-clause-stands : goal.give_journal-requires-clause-stands
give_journal-requires-clause-stands g c =
    let w = g.T.Turns.standing c.args.turns.now in
    let v = g.T.Turns.standing c.take_journal-journal.new.self in
    let posted = g.T.Post.PostRoutine.posted in
    let j = c.take_journal-journal.result in
    let vis = visiting posted w v j c.take_journal-journal.ensures.took c.take_journal-journal.ensures.stands in
    let me : c.me-pass.result ≡ w.number = c.me-pass.ensures ∙ ap (λ (y : Standing). y.number) c.take_journal-journal.ensures.took.same in
    let e = finishing posted w v c.args.file c.args.page c.args.book.now j c.requires.book c.requires.rest c.requires.here vis c.me-pass.result me c.requires.finishes
    c.end.new.book c.end.new.journal c.end.ensures.stream (c.end.ensures.ended w.setup (may-finish-visit posted w v c.args.file c.args.page c.args.book.now j c.requires.book c.requires.rest c.requires.here vis c.me-pass.result me c.requires.finishes)) in
    e.journal

pub give_journal-requires-clause-few : goal.give_journal-requires-clause-few
give_journal-requires-clause-few g c =
    let w = g.T.Turns.standing c.args.turns.now in
    let v = g.T.Turns.standing c.take_journal-journal.new.self in
    let posted = g.T.Post.PostRoutine.posted in
    let j = c.take_journal-journal.result in
    let vis = visiting posted w v j c.take_journal-journal.ensures.took c.take_journal-journal.ensures.stands in
    let me : c.me-pass.result ≡ w.number = c.me-pass.ensures ∙ ap (λ (y : Standing). y.number) c.take_journal-journal.ensures.took.same in
    let e = finishing posted w v c.args.file c.args.page c.args.book.now j c.requires.book c.requires.rest c.requires.here vis c.me-pass.result me c.requires.finishes
    c.end.new.book c.end.new.journal c.end.ensures.stream (c.end.ensures.ended w.setup (may-finish-visit posted w v c.args.file c.args.page c.args.book.now j c.requires.book c.requires.rest c.requires.here vis c.me-pass.result me c.requires.finishes)) in
    few-left w.in_flight e.went (omega (arith, c.requires.none))

pub returns-clause-book : goal.returns-clause-book
returns-clause-book g c =
    let w = g.T.Turns.standing c.args.turns.now in
    let v = g.T.Turns.standing c.take_journal-journal.new.self in
    let posted = g.T.Post.PostRoutine.posted in
    let j = c.take_journal-journal.result in
    let vis = visiting posted w v j c.take_journal-journal.ensures.took c.take_journal-journal.ensures.stands in
    let me : c.me-pass.result ≡ w.number = c.me-pass.ensures ∙ ap (λ (y : Standing). y.number) c.take_journal-journal.ensures.took.same in
    let e = finishing posted w v c.args.file c.args.page c.args.book.now j c.requires.book c.requires.rest c.requires.here vis c.me-pass.result me c.requires.finishes
    c.end.new.book c.end.new.journal c.end.ensures.stream (c.end.ensures.ended w.setup (may-finish-visit posted w v c.args.file c.args.page c.args.book.now j c.requires.book c.requires.rest c.requires.here vis c.me-pass.result me c.requires.finishes)) in
    subst (λ (x : Standing). HasBook x c.args.page.stream c.end.new.book) (sym c.give_journal.ensures) e.book

pub returns-clause-rest : goal.returns-clause-rest
returns-clause-rest g c =
    let w = g.T.Turns.standing c.args.turns.now in
    let v = g.T.Turns.standing c.take_journal-journal.new.self in
    let posted = g.T.Post.PostRoutine.posted in
    let j = c.take_journal-journal.result in
    let vis = visiting posted w v j c.take_journal-journal.ensures.took c.take_journal-journal.ensures.stands in
    let me : c.me-pass.result ≡ w.number = c.me-pass.ensures ∙ ap (λ (y : Standing). y.number) c.take_journal-journal.ensures.took.same in
    let e = finishing posted w v c.args.file c.args.page c.args.book.now j c.requires.book c.requires.rest c.requires.here vis c.me-pass.result me c.requires.finishes
    c.end.new.book c.end.new.journal c.end.ensures.stream (c.end.ensures.ended w.setup (may-finish-visit posted w v c.args.file c.args.page c.args.book.now j c.requires.book c.requires.rest c.requires.here vis c.me-pass.result me c.requires.finishes)) in
    subst (λ (x : Standing). IsAtRest x c.args.page.stream) (sym c.give_journal.ensures) e.rest

pub returns-clause-went : goal.returns-clause-went
returns-clause-went g c =
    let w = g.T.Turns.standing c.args.turns.now in
    let v = g.T.Turns.standing c.take_journal-journal.new.self in
    let posted = g.T.Post.PostRoutine.posted in
    let j = c.take_journal-journal.result in
    let vis = visiting posted w v j c.take_journal-journal.ensures.took c.take_journal-journal.ensures.stands in
    let me : c.me-pass.result ≡ w.number = c.me-pass.ensures ∙ ap (λ (y : Standing). y.number) c.take_journal-journal.ensures.took.same in
    let e = finishing posted w v c.args.file c.args.page c.args.book.now j c.requires.book c.requires.rest c.requires.here vis c.me-pass.result me c.requires.finishes
    c.end.new.book c.end.new.journal c.end.ensures.stream (c.end.ensures.ended w.setup (may-finish-visit posted w v c.args.file c.args.page c.args.book.now j c.requires.book c.requires.rest c.requires.here vis c.me-pass.result me c.requires.finishes)) in
    subst (λ (x : Standing). WentWith w.in_flight w x) (sym c.give_journal.ensures) e.went

pub returns-clause-left : goal.returns-clause-left
returns-clause-left g c =
    let w = g.T.Turns.standing c.args.turns.now in
    let v = g.T.Turns.standing c.take_journal-journal.new.self in
    let posted = g.T.Post.PostRoutine.posted in
    let j = c.take_journal-journal.result in
    let vis = visiting posted w v j c.take_journal-journal.ensures.took c.take_journal-journal.ensures.stands in
    let me : c.me-pass.result ≡ w.number = c.me-pass.ensures ∙ ap (λ (y : Standing). y.number) c.take_journal-journal.ensures.took.same in
    let e = finishing posted w v c.args.file c.args.page c.args.book.now j c.requires.book c.requires.rest c.requires.here vis c.me-pass.result me c.requires.finishes
    c.end.new.book c.end.new.journal c.end.ensures.stream (c.end.ensures.ended w.setup (may-finish-visit posted w v c.args.file c.args.page c.args.book.now j c.requires.book c.requires.rest c.requires.here vis c.me-pass.result me c.requires.finishes)) in
    subst (λ (x : Standing). HasEndedWrite w c.args.file c.args.page x.seen) (sym c.give_journal.ensures) e.left
