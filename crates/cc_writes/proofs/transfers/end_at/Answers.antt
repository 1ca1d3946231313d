-- One visit: the transfer that the pass began may end on its own place, and the book stands with the end.
use Rattle.std.proofs.Common.{◌≡◌, ◌<◌, ℕ, ap, sym, ◌∙◌, subst}
use Rattle.cc_turns.specs.Standing.{Standing}
use Rattle.cc_writes.specs.Hands.{HasBook, WentWith}
use Rattle.cc_writes.proofs.Visiting.{few-left}
use Rattle.cc_writes.proofs.OneVisit.{visiting}
use Rattle.cc_writes.proofs.Ending.{end-reserved, may_be_ended, ending}
use Rattle.cc_writes.proofs.transfers.end_at.Goals as goal

pub end-requires-clause-reserved : goal.end-requires-clause-reserved
end-requires-clause-reserved g c =
    let w = g.T.Turns.standing c.args.turns.now in
    let v = g.T.Turns.standing c.take_journal-journal.new.self in
    let vis = visiting g.T.Post.PostRoutine.posted w v c.take_journal-journal.result c.take_journal-journal.ensures.took c.take_journal-journal.ensures.stands in
    let me : c.me-pass.result ≡ w.number = c.me-pass.ensures ∙ ap (λ (y : Standing). y.number) c.take_journal-journal.ensures.took.same in
    end-reserved g.T.Post.PostRoutine.posted w v c.args.page c.args.how c.args.book.now c.take_journal-journal.result c.requires.book c.requires.device c.requires.begun
    (subst (λ (n : ℕ). n < 16) (c.number-stream.ensures.same ∙ c.stream.ensures) c.number-stream.ensures.in_range) vis c.me-pass.result me

pub end-requires-clause-may : goal.end-requires-clause-may
end-requires-clause-may g c =
    let w = g.T.Turns.standing c.args.turns.now in
    let v = g.T.Turns.standing c.take_journal-journal.new.self in
    let vis = visiting g.T.Post.PostRoutine.posted w v c.take_journal-journal.result c.take_journal-journal.ensures.took c.take_journal-journal.ensures.stands in
    let me : c.me-pass.result ≡ w.number = c.me-pass.ensures ∙ ap (λ (y : Standing). y.number) c.take_journal-journal.ensures.took.same in
    may_be_ended g.T.Post.PostRoutine.posted w v c.args.page c.args.how c.args.book.now c.take_journal-journal.result c.requires.book c.requires.device c.requires.begun
    (subst (λ (n : ℕ). n < 16) (c.number-stream.ensures.same ∙ c.stream.ensures) c.number-stream.ensures.in_range) vis c.me-pass.result me

pub give_journal-requires-clause-adds : goal.give_journal-requires-clause-adds
give_journal-requires-clause-adds g c =
    let w = g.T.Turns.standing c.args.turns.now in
    let v = g.T.Turns.standing c.take_journal-journal.new.self in
    let vis = visiting g.T.Post.PostRoutine.posted w v c.take_journal-journal.result c.take_journal-journal.ensures.took c.take_journal-journal.ensures.stands in
    let me : c.me-pass.result ≡ w.number = c.me-pass.ensures ∙ ap (λ (y : Standing). y.number) c.take_journal-journal.ensures.took.same in
    let e = ending g.T.Post.PostRoutine.posted w v c.args.page c.args.how c.args.book.now c.take_journal-journal.result c.requires.book c.requires.device c.requires.begun (subst (λ (n : ℕ). n < 16) (c.number-stream.ensures.same ∙ c.stream.ensures) c.number-stream.ensures.in_range) vis
    c.me-pass.result me c.end.new.self c.end.new.journal c.end.ensures.placed c.end.ensures.stands c.end.ensures.stream in
    e.adds

pub give_journal-requires-clause-stands : goal.give_journal-requires-clause-stands
give_journal-requires-clause-stands g c =
    let w = g.T.Turns.standing c.args.turns.now in
    let v = g.T.Turns.standing c.take_journal-journal.new.self in
    let vis = visiting g.T.Post.PostRoutine.posted w v c.take_journal-journal.result c.take_journal-journal.ensures.took c.take_journal-journal.ensures.stands in
    let me : c.me-pass.result ≡ w.number = c.me-pass.ensures ∙ ap (λ (y : Standing). y.number) c.take_journal-journal.ensures.took.same in
    let e = ending g.T.Post.PostRoutine.posted w v c.args.page c.args.how c.args.book.now c.take_journal-journal.result c.requires.book c.requires.device c.requires.begun (subst (λ (n : ℕ). n < 16) (c.number-stream.ensures.same ∙ c.stream.ensures) c.number-stream.ensures.in_range) vis
    c.me-pass.result me c.end.new.self c.end.new.journal c.end.ensures.placed c.end.ensures.stands c.end.ensures.stream in
    e.journal

pub give_journal-requires-clause-few : goal.give_journal-requires-clause-few
give_journal-requires-clause-few g c =
    let w = g.T.Turns.standing c.args.turns.now in
    let v = g.T.Turns.standing c.take_journal-journal.new.self in
    let vis = visiting g.T.Post.PostRoutine.posted w v c.take_journal-journal.result c.take_journal-journal.ensures.took c.take_journal-journal.ensures.stands in
    let me : c.me-pass.result ≡ w.number = c.me-pass.ensures ∙ ap (λ (y : Standing). y.number) c.take_journal-journal.ensures.took.same in
    let e = ending g.T.Post.PostRoutine.posted w v c.args.page c.args.how c.args.book.now c.take_journal-journal.result c.requires.book c.requires.device c.requires.begun (subst (λ (n : ℕ). n < 16) (c.number-stream.ensures.same ∙ c.stream.ensures) c.number-stream.ensures.in_range) vis
    c.me-pass.result me c.end.new.self c.end.new.journal c.end.ensures.placed c.end.ensures.stands c.end.ensures.stream in
    few-left w.in_flight e.went c.requires.few

pub returns-clause-book : goal.returns-clause-book
returns-clause-book g c =
    let w = g.T.Turns.standing c.args.turns.now in
    let v = g.T.Turns.standing c.take_journal-journal.new.self in
    let vis = visiting g.T.Post.PostRoutine.posted w v c.take_journal-journal.result c.take_journal-journal.ensures.took c.take_journal-journal.ensures.stands in
    let me : c.me-pass.result ≡ w.number = c.me-pass.ensures ∙ ap (λ (y : Standing). y.number) c.take_journal-journal.ensures.took.same in
    let e = ending g.T.Post.PostRoutine.posted w v c.args.page c.args.how c.args.book.now c.take_journal-journal.result c.requires.book c.requires.device c.requires.begun (subst (λ (n : ℕ). n < 16) (c.number-stream.ensures.same ∙ c.stream.ensures) c.number-stream.ensures.in_range) vis
    c.me-pass.result me c.end.new.self c.end.new.journal c.end.ensures.placed c.end.ensures.stands c.end.ensures.stream in
    subst (λ (x : Standing). HasBook x c.args.page.stream c.end.new.self) (sym c.give_journal.ensures) e.book

pub returns-clause-went : goal.returns-clause-went
returns-clause-went g c =
    let w = g.T.Turns.standing c.args.turns.now in
    let v = g.T.Turns.standing c.take_journal-journal.new.self in
    let vis = visiting g.T.Post.PostRoutine.posted w v c.take_journal-journal.result c.take_journal-journal.ensures.took c.take_journal-journal.ensures.stands in
    let me : c.me-pass.result ≡ w.number = c.me-pass.ensures ∙ ap (λ (y : Standing). y.number) c.take_journal-journal.ensures.took.same in
    let e = ending g.T.Post.PostRoutine.posted w v c.args.page c.args.how c.args.book.now c.take_journal-journal.result c.requires.book c.requires.device c.requires.begun (subst (λ (n : ℕ). n < 16) (c.number-stream.ensures.same ∙ c.stream.ensures) c.number-stream.ensures.in_range) vis
    c.me-pass.result me c.end.new.self c.end.new.journal c.end.ensures.placed c.end.ensures.stands c.end.ensures.stream in
    subst (λ (x : Standing). WentWith w.in_flight w x) (sym c.give_journal.ensures) e.went
