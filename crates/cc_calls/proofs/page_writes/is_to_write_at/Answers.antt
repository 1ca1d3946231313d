-- The visit places nothing, so what is in hand stays, and what was found is so of what the pass has seen.
use Rattle.std.proofs.Common.{ap, sym, ◌∙◌, subst, arith}
use Rattle.std.specs.Prelude.{◌≡◌, List, refl}
use Rattle.cc_entry.specs.declared.entry.Entry.{Entry}
use Rattle.cc_book.specs.Book.{BookStands}
use Rattle.cc_effects.specs.PageWrites.{is_passed_over}
use Rattle.cc_turns.specs.Standing.{TurnsHeld, Standing}
use Rattle.cc_writes.specs.Hands.{WentWith}
use Rattle.cc_writes.proofs.Releasing.{book_released, disk_released, idle, rest_released}
use Rattle.cc_writes.proofs.Visiting.{few-left}
use Rattle.cc_calls.proofs.Looking.{looked}
use Rattle.cc_calls.proofs.page_writes.is_to_write_at.Goals as goal

pub give_journal-requires-clause-adds : goal.give_journal-requires-clause-adds
give_journal-requires-clause-adds g c =
    (looked g.T.Post.PostRoutine.posted (g.T.Turns.standing c.args.turns.now) (g.T.Turns.standing c.take_journal-journal.new.self) c.take_journal-journal.result
    (ap (λ (h : TurnsHeld). h.journal) c.requires.book.held) c.take_journal-journal.ensures.took c.take_journal-journal.ensures.stands).adds

pub give_journal-requires-clause-stands : goal.give_journal-requires-clause-stands
give_journal-requires-clause-stands g c =
    (looked g.T.Post.PostRoutine.posted (g.T.Turns.standing c.args.turns.now) (g.T.Turns.standing c.take_journal-journal.new.self) c.take_journal-journal.result
    (ap (λ (h : TurnsHeld). h.journal) c.requires.book.held) c.take_journal-journal.ensures.took c.take_journal-journal.ensures.stands).journal

pub give_journal-requires-clause-few : goal.give_journal-requires-clause-few
give_journal-requires-clause-few g c =
    few-left (g.T.Turns.standing c.args.turns.now).in_flight
    (looked g.T.Post.PostRoutine.posted (g.T.Turns.standing c.args.turns.now) (g.T.Turns.standing c.take_journal-journal.new.self) c.take_journal-journal.result
    (ap (λ (h : TurnsHeld). h.journal) c.requires.book.held) c.take_journal-journal.ensures.took c.take_journal-journal.ensures.stands).went
    (omega (arith, c.requires.none))

pub returns-clause-went : goal.returns-clause-went
returns-clause-went g c =
    let w = g.T.Turns.standing c.args.turns.now in
    subst (λ (x : Standing). WentWith w.in_flight w x) (sym c.give_journal.ensures)
    (looked g.T.Post.PostRoutine.posted w (g.T.Turns.standing c.take_journal-journal.new.self) c.take_journal-journal.result
    (ap (λ (h : TurnsHeld). h.journal) c.requires.book.held) c.take_journal-journal.ensures.took c.take_journal-journal.ensures.stands).went

pub returns-clause-book : goal.returns-clause-book
returns-clause-book g c =
    book_released g.T.Post.PostRoutine.posted (g.T.Turns.standing c.args.turns.now) (g.T.Turns.standing c.take_journal-journal.new.self) c.take_journal-journal.result c.take_journal-journal.result
    c.take_journal-journal.ensures.took c.take_journal-journal.ensures.stands refl (g.T.Turns.standing c.give_journal.new.self) c.give_journal.ensures (ap (λ (h : TurnsHeld). h.journal) c.requires.book.held)
    c.args.page.stream c.args.book.now c.requires.book

pub returns-clause-rest : goal.returns-clause-rest
returns-clause-rest g c =
    rest_released g.T.Post.PostRoutine.posted (g.T.Turns.standing c.args.turns.now) (g.T.Turns.standing c.take_journal-journal.new.self) c.take_journal-journal.result c.take_journal-journal.result
    c.take_journal-journal.ensures.took c.take_journal-journal.ensures.stands refl (g.T.Turns.standing c.give_journal.new.self) c.give_journal.ensures (ap (λ (h : TurnsHeld). h.journal) c.requires.book.held)
    c.args.page.stream c.requires.rest

pub returns-clause-disk : goal.returns-clause-disk
returns-clause-disk g c =
    disk_released g.T.Post.PostRoutine.posted (g.T.Turns.standing c.args.turns.now) (g.T.Turns.standing c.take_journal-journal.new.self) c.take_journal-journal.result c.take_journal-journal.result
    c.take_journal-journal.ensures.took c.take_journal-journal.ensures.stands refl (g.T.Turns.standing c.give_journal.new.self) c.give_journal.ensures (ap (λ (h : TurnsHeld). h.journal) c.requires.book.held)
    c.args.page.stream c.requires.rest.device

pub returns-clause-idle : goal.returns-clause-idle
returns-clause-idle g c =
    idle g.T.Post.PostRoutine.posted (g.T.Turns.standing c.args.turns.now) (g.T.Turns.standing c.take_journal-journal.new.self) c.take_journal-journal.result c.take_journal-journal.result
    c.take_journal-journal.ensures.took c.take_journal-journal.ensures.stands refl (g.T.Turns.standing c.give_journal.new.self) c.give_journal.ensures (ap (λ (h : TurnsHeld). h.journal) c.requires.book.held)

pub returns-clause-found : goal.returns-clause-found
returns-clause-found g c =
    let z = g.T.Turns.standing c.give_journal.new.self in
    let page = c.args.page in
    let has = book_released g.T.Post.PostRoutine.posted (g.T.Turns.standing c.args.turns.now) (g.T.Turns.standing c.take_journal-journal.new.self) c.take_journal-journal.result c.take_journal-journal.result
    c.take_journal-journal.ensures.took c.take_journal-journal.ensures.stands refl z c.give_journal.ensures (ap (λ (h : TurnsHeld). h.journal) c.requires.book.held)
    page.stream c.args.book.now c.requires.book in
    let seen : z.seen ≡ c.take_journal-journal.result.entries = ap (λ (x : Standing). x.seen) c.give_journal.ensures in
    ap (λ (past : List Entry). is_passed_over page past) seen
    ∙ c.is_to_write-found.ensures (z.setup.opening page.stream) (subst (λ (past : List Entry). BookStands (z.setup.opening page.stream) past c.args.book.now) seen has.stands)
