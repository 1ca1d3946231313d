-- One visit: the page of a write that is on the disk may go out on the journal that was taken, and what was placed is good
-- and is given with it. The write may end on what is there then.
use Rattle.std.specs.Prelude.{ℕ}
use Rattle.std.proofs.Common.{◌≡◌, ap, sym, ◌∙◌, subst, arith}
use Rattle.cc_model.specs.Conditions.{MayFinish}
use Rattle.cc_turns.specs.Standing.{Standing}
use Rattle.cc_writes.specs.Hands.{HasBook, IsAtRest, WentWith}
use Rattle.cc_writes.proofs.Visiting.{few-left}
use Rattle.cc_writes.proofs.OneVisit.{visiting}
use Rattle.cc_ranges.specs.Ends.{HasTidied}
use Rattle.cc_ranges.proofs.EndVisits.{may-finish-visit, spare-tidied, tidying}
use Rattle.cc_ranges.proofs.ends.tidy_at.Goals as goal

pub tidy-requires-clause-may : goal.tidy-requires-clause-may
tidy-requires-clause-may g c =
    let w = g.T.Turns.standing c.args.turns.now in
    let v = g.T.Turns.standing c.take_journal-journal.new.self in
    let posted = g.T.Post.PostRoutine.posted in
    let j = c.take_journal-journal.result in
    let vis = visiting posted w v j c.take_journal-journal.ensures.took c.take_journal-journal.ensures.stands in
    let me : c.me-pass.result ≡ w.number = c.me-pass.ensures ∙ ap (λ (y : Standing). y.number) c.take_journal-journal.ensures.took.same in
    (w.setup, may-finish-visit posted w v c.args.file c.args.page c.args.book.now j c.requires.book c.requires.rest c.requires.here vis c.me-pass.result me c.requires.finishes)

pub tidy-requires-clause-spare : goal.tidy-requires-clause-spare
tidy-requires-clause-spare g c =
    let w = g.T.Turns.standing c.args.turns.now in
    let v = g.T.Turns.standing c.take_journal-journal.new.self in
    let posted = g.T.Post.PostRoutine.posted in
    let j = c.take_journal-journal.result in
    let vis = visiting posted w v j c.take_journal-journal.ensures.took c.take_journal-journal.ensures.stands in
    let me : c.me-pass.result ≡ w.number = c.me-pass.ensures ∙ ap (λ (y : Standing). y.number) c.take_journal-journal.ensures.took.same in
    spare-tidied posted w v c.args.file c.args.page c.args.book.now j c.requires.book c.requires.rest c.requires.here vis c.me-pass.result me c.requires.finishes c.args.kept c.requires.kept

pub tidy-requires-clause-stream : goal.tidy-requires-clause-stream
tidy-requires-clause-stream g c =
    let w = g.T.Turns.standing c.args.turns.now in
    let v = g.T.Turns.standing c.take_journal-journal.new.self in
    let posted = g.T.Post.PostRoutine.posted in
    let j = c.take_journal-journal.result in
    let vis = visiting posted w v j c.take_journal-journal.ensures.took c.take_journal-journal.ensures.stands in
    let me : c.me-pass.result ≡ w.number = c.me-pass.ensures ∙ ap (λ (y : Standing). y.number) c.take_journal-journal.ensures.took.same in
    sym c.requires.book.stream

pub give_journal-requires-clause-adds : goal.give_journal-requires-clause-adds
give_journal-requires-clause-adds g c =
    let w = g.T.Turns.standing c.args.turns.now in
    let v = g.T.Turns.standing c.take_journal-journal.new.self in
    let posted = g.T.Post.PostRoutine.posted in
    let j = c.take_journal-journal.result in
    let vis = visiting posted w v j c.take_journal-journal.ensures.took c.take_journal-journal.ensures.stands in
    let me : c.me-pass.result ≡ w.number = c.me-pass.ensures ∙ ap (λ (y : Standing). y.number) c.take_journal-journal.ensures.took.same in
    let e = tidying posted w v c.args.file c.args.page c.args.book.now j c.requires.book c.requires.rest c.requires.here vis c.me-pass.result me c.requires.finishes c.args.kept c.requires.kept
    c.tidy.new.book c.tidy.new.journal c.tidy.ensures.stream (c.tidy.ensures.tidied w.setup (may-finish-visit posted w v c.args.file c.args.page c.args.book.now j c.requires.book c.requires.rest c.requires.here vis c.me-pass.result me c.requires.finishes)) in
    e.adds

pub give_journal-requires-clause-stands : goal.give_journal-requires-clause-stands
give_journal-requires-clause-stands g c =
    let w = g.T.Turns.standing c.args.turns.now in
    let v = g.T.Turns.standing c.take_journal-journal.new.self in
    let posted = g.T.Post.PostRoutine.posted in
    let j = c.take_journal-journal.result in
    let vis = visiting posted w v j c.take_journal-journal.ensures.took c.take_journal-journal.ensures.stands in
    let me : c.me-pass.result ≡ w.number = c.me-pass.ensures ∙ ap (λ (y : Standing). y.number) c.take_journal-journal.ensures.took.same in
    let e = tidying posted w v c.args.file c.args.page c.args.book.now j c.requires.book c.requires.rest c.requires.here vis c.me-pass.result me c.requires.finishes c.args.kept c.requires.kept
    c.tidy.new.book c.tidy.new.journal c.tidy.ensures.stream (c.tidy.ensures.tidied w.setup (may-finish-visit posted w v c.args.file c.args.page c.args.book.now j c.requires.book c.requires.rest c.requires.here vis c.me-pass.result me c.requires.finishes)) in
    e.journal

pub give_journal-requires-clause-few : goal.give_journal-requires-clause-few
give_journal-requires-clause-few g c =
    let w = g.T.Turns.standing c.args.turns.now in
    let v = g.T.Turns.standing c.take_journal-journal.new.self in
    let posted = g.T.Post.PostRoutine.posted in
    let j = c.take_journal-journal.result in
    let vis = visiting posted w v j c.take_journal-journal.ensures.took c.take_journal-journal.ensures.stands in
    let me : c.me-pass.result ≡ w.number = c.me-pass.ensures ∙ ap (λ (y : Standing). y.number) c.take_journal-journal.ensures.took.same in
    let e = tidying posted w v c.args.file c.args.page c.args.book.now j c.requires.book c.requires.rest c.requires.here vis c.me-pass.result me c.requires.finishes c.args.kept c.requires.kept
    c.tidy.new.book c.tidy.new.journal c.tidy.ensures.stream (c.tidy.ensures.tidied w.setup (may-finish-visit posted w v c.args.file c.args.page c.args.book.now j c.requires.book c.requires.rest c.requires.here vis c.me-pass.result me c.requires.finishes)) in
    few-left 0 e.went (omega arith)

pub returns-clause-book : goal.returns-clause-book
returns-clause-book g c =
    let w = g.T.Turns.standing c.args.turns.now in
    let v = g.T.Turns.standing c.take_journal-journal.new.self in
    let posted = g.T.Post.PostRoutine.posted in
    let j = c.take_journal-journal.result in
    let vis = visiting posted w v j c.take_journal-journal.ensures.took c.take_journal-journal.ensures.stands in
    let me : c.me-pass.result ≡ w.number = c.me-pass.ensures ∙ ap (λ (y : Standing). y.number) c.take_journal-journal.ensures.took.same in
    let e = tidying posted w v c.args.file c.args.page c.args.book.now j c.requires.book c.requires.rest c.requires.here vis c.me-pass.result me c.requires.finishes c.args.kept c.requires.kept
    c.tidy.new.book c.tidy.new.journal c.tidy.ensures.stream (c.tidy.ensures.tidied w.setup (may-finish-visit posted w v c.args.file c.args.page c.args.book.now j c.requires.book c.requires.rest c.requires.here vis c.me-pass.result me c.requires.finishes)) in
    subst (λ (x : Standing). HasBook x c.args.page.stream c.tidy.new.book) (sym c.give_journal.ensures) e.book

pub returns-clause-rest : goal.returns-clause-rest
returns-clause-rest g c =
    let w = g.T.Turns.standing c.args.turns.now in
    let v = g.T.Turns.standing c.take_journal-journal.new.self in
    let posted = g.T.Post.PostRoutine.posted in
    let j = c.take_journal-journal.result in
    let vis = visiting posted w v j c.take_journal-journal.ensures.took c.take_journal-journal.ensures.stands in
    let me : c.me-pass.result ≡ w.number = c.me-pass.ensures ∙ ap (λ (y : Standing). y.number) c.take_journal-journal.ensures.took.same in
    let e = tidying posted w v c.args.file c.args.page c.args.book.now j c.requires.book c.requires.rest c.requires.here vis c.me-pass.result me c.requires.finishes c.args.kept c.requires.kept
    c.tidy.new.book c.tidy.new.journal c.tidy.ensures.stream (c.tidy.ensures.tidied w.setup (may-finish-visit posted w v c.args.file c.args.page c.args.book.now j c.requires.book c.requires.rest c.requires.here vis c.me-pass.result me c.requires.finishes)) in
    subst (λ (x : Standing). IsAtRest x c.args.page.stream) (sym c.give_journal.ensures) e.rest

pub returns-clause-went : goal.returns-clause-went
returns-clause-went g c =
    let w = g.T.Turns.standing c.args.turns.now in
    let v = g.T.Turns.standing c.take_journal-journal.new.self in
    let posted = g.T.Post.PostRoutine.posted in
    let j = c.take_journal-journal.result in
    let vis = visiting posted w v j c.take_journal-journal.ensures.took c.take_journal-journal.ensures.stands in
    let me : c.me-pass.result ≡ w.number = c.me-pass.ensures ∙ ap (λ (y : Standing). y.number) c.take_journal-journal.ensures.took.same in
    let e = tidying posted w v c.args.file c.args.page c.args.book.now j c.requires.book c.requires.rest c.requires.here vis c.me-pass.result me c.requires.finishes c.args.kept c.requires.kept
    c.tidy.new.book c.tidy.new.journal c.tidy.ensures.stream (c.tidy.ensures.tidied w.setup (may-finish-visit posted w v c.args.file c.args.page c.args.book.now j c.requires.book c.requires.rest c.requires.here vis c.me-pass.result me c.requires.finishes)) in
    subst (λ (x : Standing). WentWith 0 w x) (sym c.give_journal.ensures) e.went

pub returns-clause-left : goal.returns-clause-left
returns-clause-left g c =
    let w = g.T.Turns.standing c.args.turns.now in
    let v = g.T.Turns.standing c.take_journal-journal.new.self in
    let posted = g.T.Post.PostRoutine.posted in
    let j = c.take_journal-journal.result in
    let vis = visiting posted w v j c.take_journal-journal.ensures.took c.take_journal-journal.ensures.stands in
    let me : c.me-pass.result ≡ w.number = c.me-pass.ensures ∙ ap (λ (y : Standing). y.number) c.take_journal-journal.ensures.took.same in
    let e = tidying posted w v c.args.file c.args.page c.args.book.now j c.requires.book c.requires.rest c.requires.here vis c.me-pass.result me c.requires.finishes c.args.kept c.requires.kept
    c.tidy.new.book c.tidy.new.journal c.tidy.ensures.stream (c.tidy.ensures.tidied w.setup (may-finish-visit posted w v c.args.file c.args.page c.args.book.now j c.requires.book c.requires.rest c.requires.here vis c.me-pass.result me c.requires.finishes)) in
    subst (λ (x : Standing). HasTidied w c.args.page x.seen) (sym c.give_journal.ensures) e.left.0

pub returns-clause-finishes : goal.returns-clause-finishes
returns-clause-finishes g c =
    let w = g.T.Turns.standing c.args.turns.now in
    let v = g.T.Turns.standing c.take_journal-journal.new.self in
    let posted = g.T.Post.PostRoutine.posted in
    let j = c.take_journal-journal.result in
    let vis = visiting posted w v j c.take_journal-journal.ensures.took c.take_journal-journal.ensures.stands in
    let me : c.me-pass.result ≡ w.number = c.me-pass.ensures ∙ ap (λ (y : Standing). y.number) c.take_journal-journal.ensures.took.same in
    let e = tidying posted w v c.args.file c.args.page c.args.book.now j c.requires.book c.requires.rest c.requires.here vis c.me-pass.result me c.requires.finishes c.args.kept c.requires.kept
    c.tidy.new.book c.tidy.new.journal c.tidy.ensures.stream (c.tidy.ensures.tidied w.setup (may-finish-visit posted w v c.args.file c.args.page c.args.book.now j c.requires.book c.requires.rest c.requires.here vis c.me-pass.result me c.requires.finishes)) in
    subst (λ (x : Standing). MayFinish x.seen x.number c.args.page.stream c.args.page.page) (sym c.give_journal.ensures)
    (subst (λ (n : ℕ). MayFinish c.tidy.new.journal.entries n c.args.page.stream c.args.page.page) (sym (ap (λ (y : Standing). y.number) c.take_journal-journal.ensures.took.same)) e.left.1)
