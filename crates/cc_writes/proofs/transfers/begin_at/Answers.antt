-- One visit: a dirty page whose log is flushed may begin, and what is owed for its end stays reserved.
use Rattle.std.proofs.Common.{◌≡◌, ◌<◌, ℕ, ap, sym, ◌∙◌, subst, arith}
use Rattle.cc_turns.specs.Standing.{Standing}
use Rattle.cc_writes.specs.Hands.{HasBook, WentWith}
use Rattle.cc_writes.specs.Transfers.{BeginLeft}
use Rattle.cc_writes.proofs.Visiting.{few-left}
use Rattle.cc_writes.proofs.OneVisit.{visiting}
use Rattle.cc_writes.proofs.Beginning.{may_be_begun, beginning}
use Rattle.cc_writes.proofs.transfers.begin_at.Goals as goal

pub begin-begun-requires-clause-may : goal.begin-begun-requires-clause-may
begin-begun-requires-clause-may g c =
    let w = g.T.Turns.standing c.args.turns.now in
    let v = g.T.Turns.standing c.take_journal-journal.new.self in
    let vis = visiting g.T.Post.PostRoutine.posted w v c.take_journal-journal.result c.take_journal-journal.ensures.took c.take_journal-journal.ensures.stands in
    may_be_begun g.T.Post.PostRoutine.posted w v c.args.page c.args.book.now c.take_journal-journal.result c.requires.book c.requires.rest c.requires.dirty c.requires.logged vis c.me-pass.result

pub give_journal-requires-clause-adds : goal.give_journal-requires-clause-adds
give_journal-requires-clause-adds g c =
    let w = g.T.Turns.standing c.args.turns.now in
    let v = g.T.Turns.standing c.take_journal-journal.new.self in
    let vis = visiting g.T.Post.PostRoutine.posted w v c.take_journal-journal.result c.take_journal-journal.ensures.took c.take_journal-journal.ensures.stands in
    let me : c.me-pass.result ≡ w.number = c.me-pass.ensures ∙ ap (λ (y : Standing). y.number) c.take_journal-journal.ensures.took.same in
    let b = beginning g.T.Post.PostRoutine.posted w v c.args.page c.args.book.now c.take_journal-journal.result c.requires.book c.requires.rest c.requires.dirty c.requires.logged vis
    c.me-pass.result me (subst (λ (n : ℕ). n < 16) (c.number-stream.ensures.same ∙ c.stream.ensures) c.number-stream.ensures.in_range) c.begin-begun.new.book c.begin-begun.new.journal c.begin-begun.result c.begin-begun.ensures in
    b.adds

pub give_journal-requires-clause-stands : goal.give_journal-requires-clause-stands
give_journal-requires-clause-stands g c =
    let w = g.T.Turns.standing c.args.turns.now in
    let v = g.T.Turns.standing c.take_journal-journal.new.self in
    let vis = visiting g.T.Post.PostRoutine.posted w v c.take_journal-journal.result c.take_journal-journal.ensures.took c.take_journal-journal.ensures.stands in
    let me : c.me-pass.result ≡ w.number = c.me-pass.ensures ∙ ap (λ (y : Standing). y.number) c.take_journal-journal.ensures.took.same in
    let b = beginning g.T.Post.PostRoutine.posted w v c.args.page c.args.book.now c.take_journal-journal.result c.requires.book c.requires.rest c.requires.dirty c.requires.logged vis
    c.me-pass.result me (subst (λ (n : ℕ). n < 16) (c.number-stream.ensures.same ∙ c.stream.ensures) c.number-stream.ensures.in_range) c.begin-begun.new.book c.begin-begun.new.journal c.begin-begun.result c.begin-begun.ensures in
    b.journal

pub give_journal-requires-clause-few : goal.give_journal-requires-clause-few
give_journal-requires-clause-few g c =
    let w = g.T.Turns.standing c.args.turns.now in
    let v = g.T.Turns.standing c.take_journal-journal.new.self in
    let vis = visiting g.T.Post.PostRoutine.posted w v c.take_journal-journal.result c.take_journal-journal.ensures.took c.take_journal-journal.ensures.stands in
    let me : c.me-pass.result ≡ w.number = c.me-pass.ensures ∙ ap (λ (y : Standing). y.number) c.take_journal-journal.ensures.took.same in
    let b = beginning g.T.Post.PostRoutine.posted w v c.args.page c.args.book.now c.take_journal-journal.result c.requires.book c.requires.rest c.requires.dirty c.requires.logged vis
    c.me-pass.result me (subst (λ (n : ℕ). n < 16) (c.number-stream.ensures.same ∙ c.stream.ensures) c.number-stream.ensures.in_range) c.begin-begun.new.book c.begin-begun.new.journal c.begin-begun.result c.begin-begun.ensures in
    few-left w.in_flight b.went (omega (arith, c.requires.none))

pub returns-clause-book : goal.returns-clause-book
returns-clause-book g c =
    let w = g.T.Turns.standing c.args.turns.now in
    let v = g.T.Turns.standing c.take_journal-journal.new.self in
    let vis = visiting g.T.Post.PostRoutine.posted w v c.take_journal-journal.result c.take_journal-journal.ensures.took c.take_journal-journal.ensures.stands in
    let me : c.me-pass.result ≡ w.number = c.me-pass.ensures ∙ ap (λ (y : Standing). y.number) c.take_journal-journal.ensures.took.same in
    let b = beginning g.T.Post.PostRoutine.posted w v c.args.page c.args.book.now c.take_journal-journal.result c.requires.book c.requires.rest c.requires.dirty c.requires.logged vis
    c.me-pass.result me (subst (λ (n : ℕ). n < 16) (c.number-stream.ensures.same ∙ c.stream.ensures) c.number-stream.ensures.in_range) c.begin-begun.new.book c.begin-begun.new.journal c.begin-begun.result c.begin-begun.ensures in
    subst (λ (x : Standing). HasBook x c.args.page.stream c.begin-begun.new.book) (sym c.give_journal.ensures) b.book

pub returns-clause-went : goal.returns-clause-went
returns-clause-went g c =
    let w = g.T.Turns.standing c.args.turns.now in
    let v = g.T.Turns.standing c.take_journal-journal.new.self in
    let vis = visiting g.T.Post.PostRoutine.posted w v c.take_journal-journal.result c.take_journal-journal.ensures.took c.take_journal-journal.ensures.stands in
    let me : c.me-pass.result ≡ w.number = c.me-pass.ensures ∙ ap (λ (y : Standing). y.number) c.take_journal-journal.ensures.took.same in
    let b = beginning g.T.Post.PostRoutine.posted w v c.args.page c.args.book.now c.take_journal-journal.result c.requires.book c.requires.rest c.requires.dirty c.requires.logged vis
    c.me-pass.result me (subst (λ (n : ℕ). n < 16) (c.number-stream.ensures.same ∙ c.stream.ensures) c.number-stream.ensures.in_range) c.begin-begun.new.book c.begin-begun.new.journal c.begin-begun.result c.begin-begun.ensures in
    subst (λ (x : Standing). WentWith w.in_flight w x) (sym c.give_journal.ensures) b.went

pub returns-clause-left : goal.returns-clause-left
returns-clause-left g c =
    let w = g.T.Turns.standing c.args.turns.now in
    let v = g.T.Turns.standing c.take_journal-journal.new.self in
    let vis = visiting g.T.Post.PostRoutine.posted w v c.take_journal-journal.result c.take_journal-journal.ensures.took c.take_journal-journal.ensures.stands in
    let me : c.me-pass.result ≡ w.number = c.me-pass.ensures ∙ ap (λ (y : Standing). y.number) c.take_journal-journal.ensures.took.same in
    let b = beginning g.T.Post.PostRoutine.posted w v c.args.page c.args.book.now c.take_journal-journal.result c.requires.book c.requires.rest c.requires.dirty c.requires.logged vis
    c.me-pass.result me (subst (λ (n : ℕ). n < 16) (c.number-stream.ensures.same ∙ c.stream.ensures) c.number-stream.ensures.in_range) c.begin-begun.new.book c.begin-begun.new.journal c.begin-begun.result c.begin-begun.ensures in
    subst (λ (x : Standing). BeginLeft w c.args.page c.begin-begun.result x.seen) (sym c.give_journal.ensures) b.left
