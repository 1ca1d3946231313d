-- One visit: a write whose transfer failed may fail on the journal that was taken, at the place that the past owes it;
-- its entry is given with the journal.
use Rattle.std.proofs.Common.{◌≡◌, ap, sym, ◌∙◌, subst, arith}
use Rattle.cc_turns.specs.Standing.{Standing}
use Rattle.cc_writes.specs.Hands.{HasBook, IsAtRest, WentWith}
use Rattle.cc_writes.proofs.Visiting.{few-left}
use Rattle.cc_writes.proofs.OneVisit.{visiting}
use Rattle.cc_ranges.specs.Ends.{HasFailedWrite}
use Rattle.cc_ranges.proofs.WriteFinishing.{may-fail}
use Rattle.cc_ranges.proofs.EndVisits.{may-fail-visit, failing, spare-failed}
use Rattle.cc_ranges.proofs.ends.fail_at.Goals as goal

pub fail-requires-clause-may : goal.fail-requires-clause-may
fail-requires-clause-may g c =
    let w = g.T.Turns.standing c.args.turns.now in
    let v = g.T.Turns.standing c.take_journal-journal.new.self in
    let posted = g.T.Post.PostRoutine.posted in
    let j = c.take_journal-journal.result in
    let vis = visiting posted w v j c.take_journal-journal.ensures.took c.take_journal-journal.ensures.stands in
    let me : c.me-pass.result ≡ w.number = c.me-pass.ensures ∙ ap (λ (y : Standing). y.number) c.take_journal-journal.ensures.took.same in
    rw (c.page.ensures.same, c.page-2.ensures.same) (may-fail w.setup c.me-pass.result c.args.file c.args.page c.args.book.now j (sym c.requires.book.stream) (may-fail-visit posted w v c.args.file c.args.page c.args.book.now j c.requires.book c.requires.rest c.requires.here vis c.me-pass.result me c.requires.fails))

pub fail-requires-clause-reserved : goal.fail-requires-clause-reserved
fail-requires-clause-reserved g c =
    let w = g.T.Turns.standing c.args.turns.now in
    let v = g.T.Turns.standing c.take_journal-journal.new.self in
    let posted = g.T.Post.PostRoutine.posted in
    let j = c.take_journal-journal.result in
    let vis = visiting posted w v j c.take_journal-journal.ensures.took c.take_journal-journal.ensures.stands in
    let me : c.me-pass.result ≡ w.number = c.me-pass.ensures ∙ ap (λ (y : Standing). y.number) c.take_journal-journal.ensures.took.same in
    (may-fail-visit posted w v c.args.file c.args.page c.args.book.now j c.requires.book c.requires.rest c.requires.here vis c.me-pass.result me c.requires.fails).reserved

pub give_back-requires : goal.give_back-requires
give_back-requires g c =
    let w = g.T.Turns.standing c.args.turns.now in
    let v = g.T.Turns.standing c.take_journal-journal.new.self in
    let posted = g.T.Post.PostRoutine.posted in
    let j = c.take_journal-journal.result in
    let vis = visiting posted w v j c.take_journal-journal.ensures.took c.take_journal-journal.ensures.stands in
    let me : c.me-pass.result ≡ w.number = c.me-pass.ensures ∙ ap (λ (y : Standing). y.number) c.take_journal-journal.ensures.took.same in
    spare-failed posted w v c.args.file c.args.page c.args.book.now j c.requires.book c.requires.rest c.requires.here vis c.me-pass.result me c.requires.fails c.args.kept c.requires.kept c.fail.new.journal (rw (c.page.ensures.same, c.page-2.ensures.same) at c.fail.ensures.placed)

pub give_journal-requires-clause-adds : goal.give_journal-requires-clause-adds
give_journal-requires-clause-adds g c =
    let w = g.T.Turns.standing c.args.turns.now in
    let v = g.T.Turns.standing c.take_journal-journal.new.self in
    let posted = g.T.Post.PostRoutine.posted in
    let j = c.take_journal-journal.result in
    let vis = visiting posted w v j c.take_journal-journal.ensures.took c.take_journal-journal.ensures.stands in
    let me : c.me-pass.result ≡ w.number = c.me-pass.ensures ∙ ap (λ (y : Standing). y.number) c.take_journal-journal.ensures.took.same in
    let e = failing posted w v c.args.file c.args.page c.args.book.now j c.requires.book c.requires.rest c.requires.here vis c.me-pass.result me c.requires.fails c.args.kept c.requires.kept
    c.fail.new.self c.fail.new.journal c.give_back.new.journal c.fail.ensures.same (rw (c.page.ensures.same, c.page-2.ensures.same) at c.fail.ensures.placed) c.fail.ensures.stands c.give_back.ensures in
    e.adds

pub give_journal-requires-clause-stands : goal.give_journal-requires-clause-stands
give_journal-requires-clause-stands g c =
    let w = g.T.Turns.standing c.args.turns.now in
    let v = g.T.Turns.standing c.take_journal-journal.new.self in
    let posted = g.T.Post.PostRoutine.posted in
    let j = c.take_journal-journal.result in
    let vis = visiting posted w v j c.take_journal-journal.ensures.took c.take_journal-journal.ensures.stands in
    let me : c.me-pass.result ≡ w.number = c.me-pass.ensures ∙ ap (λ (y : Standing). y.number) c.take_journal-journal.ensures.took.same in
    let e = failing posted w v c.args.file c.args.page c.args.book.now j c.requires.book c.requires.rest c.requires.here vis c.me-pass.result me c.requires.fails c.args.kept c.requires.kept
    c.fail.new.self c.fail.new.journal c.give_back.new.journal c.fail.ensures.same (rw (c.page.ensures.same, c.page-2.ensures.same) at c.fail.ensures.placed) c.fail.ensures.stands c.give_back.ensures in
    e.journal

pub give_journal-requires-clause-few : goal.give_journal-requires-clause-few
give_journal-requires-clause-few g c =
    let w = g.T.Turns.standing c.args.turns.now in
    let v = g.T.Turns.standing c.take_journal-journal.new.self in
    let posted = g.T.Post.PostRoutine.posted in
    let j = c.take_journal-journal.result in
    let vis = visiting posted w v j c.take_journal-journal.ensures.took c.take_journal-journal.ensures.stands in
    let me : c.me-pass.result ≡ w.number = c.me-pass.ensures ∙ ap (λ (y : Standing). y.number) c.take_journal-journal.ensures.took.same in
    let e = failing posted w v c.args.file c.args.page c.args.book.now j c.requires.book c.requires.rest c.requires.here vis c.me-pass.result me c.requires.fails c.args.kept c.requires.kept
    c.fail.new.self c.fail.new.journal c.give_back.new.journal c.fail.ensures.same (rw (c.page.ensures.same, c.page-2.ensures.same) at c.fail.ensures.placed) c.fail.ensures.stands c.give_back.ensures in
    few-left 0 e.went (omega arith)

pub returns-clause-book : goal.returns-clause-book
returns-clause-book g c =
    let w = g.T.Turns.standing c.args.turns.now in
    let v = g.T.Turns.standing c.take_journal-journal.new.self in
    let posted = g.T.Post.PostRoutine.posted in
    let j = c.take_journal-journal.result in
    let vis = visiting posted w v j c.take_journal-journal.ensures.took c.take_journal-journal.ensures.stands in
    let me : c.me-pass.result ≡ w.number = c.me-pass.ensures ∙ ap (λ (y : Standing). y.number) c.take_journal-journal.ensures.took.same in
    let e = failing posted w v c.args.file c.args.page c.args.book.now j c.requires.book c.requires.rest c.requires.here vis c.me-pass.result me c.requires.fails c.args.kept c.requires.kept
    c.fail.new.self c.fail.new.journal c.give_back.new.journal c.fail.ensures.same (rw (c.page.ensures.same, c.page-2.ensures.same) at c.fail.ensures.placed) c.fail.ensures.stands c.give_back.ensures in
    subst (λ (x : Standing). HasBook x c.args.page.stream c.fail.new.self) (sym c.give_journal.ensures) e.book

pub returns-clause-rest : goal.returns-clause-rest
returns-clause-rest g c =
    let w = g.T.Turns.standing c.args.turns.now in
    let v = g.T.Turns.standing c.take_journal-journal.new.self in
    let posted = g.T.Post.PostRoutine.posted in
    let j = c.take_journal-journal.result in
    let vis = visiting posted w v j c.take_journal-journal.ensures.took c.take_journal-journal.ensures.stands in
    let me : c.me-pass.result ≡ w.number = c.me-pass.ensures ∙ ap (λ (y : Standing). y.number) c.take_journal-journal.ensures.took.same in
    let e = failing posted w v c.args.file c.args.page c.args.book.now j c.requires.book c.requires.rest c.requires.here vis c.me-pass.result me c.requires.fails c.args.kept c.requires.kept
    c.fail.new.self c.fail.new.journal c.give_back.new.journal c.fail.ensures.same (rw (c.page.ensures.same, c.page-2.ensures.same) at c.fail.ensures.placed) c.fail.ensures.stands c.give_back.ensures in
    subst (λ (x : Standing). IsAtRest x c.args.page.stream) (sym c.give_journal.ensures) e.rest

pub returns-clause-went : goal.returns-clause-went
returns-clause-went g c =
    let w = g.T.Turns.standing c.args.turns.now in
    let v = g.T.Turns.standing c.take_journal-journal.new.self in
    let posted = g.T.Post.PostRoutine.posted in
    let j = c.take_journal-journal.result in
    let vis = visiting posted w v j c.take_journal-journal.ensures.took c.take_journal-journal.ensures.stands in
    let me : c.me-pass.result ≡ w.number = c.me-pass.ensures ∙ ap (λ (y : Standing). y.number) c.take_journal-journal.ensures.took.same in
    let e = failing posted w v c.args.file c.args.page c.args.book.now j c.requires.book c.requires.rest c.requires.here vis c.me-pass.result me c.requires.fails c.args.kept c.requires.kept
    c.fail.new.self c.fail.new.journal c.give_back.new.journal c.fail.ensures.same (rw (c.page.ensures.same, c.page-2.ensures.same) at c.fail.ensures.placed) c.fail.ensures.stands c.give_back.ensures in
    subst (λ (x : Standing). WentWith 0 w x) (sym c.give_journal.ensures) e.went

pub returns-clause-left : goal.returns-clause-left
returns-clause-left g c =
    let w = g.T.Turns.standing c.args.turns.now in
    let v = g.T.Turns.standing c.take_journal-journal.new.self in
    let posted = g.T.Post.PostRoutine.posted in
    let j = c.take_journal-journal.result in
    let vis = visiting posted w v j c.take_journal-journal.ensures.took c.take_journal-journal.ensures.stands in
    let me : c.me-pass.result ≡ w.number = c.me-pass.ensures ∙ ap (λ (y : Standing). y.number) c.take_journal-journal.ensures.took.same in
    let e = failing posted w v c.args.file c.args.page c.args.book.now j c.requires.book c.requires.rest c.requires.here vis c.me-pass.result me c.requires.fails c.args.kept c.requires.kept
    c.fail.new.self c.fail.new.journal c.give_back.new.journal c.fail.ensures.same (rw (c.page.ensures.same, c.page-2.ensures.same) at c.fail.ensures.placed) c.fail.ensures.stands c.give_back.ensures in
    subst (λ (x : Standing). HasFailedWrite w c.args.file c.args.page x.seen) (sym c.give_journal.ensures) e.left
