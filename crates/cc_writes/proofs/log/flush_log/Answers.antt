-- The log of the book is the stream's, and one of the run; without a log the page is logged as it is.
use Rattle.std.proofs.Common.{◌≡◌, Some, None, ℕ, sym, ◌∙◌, subst, inl}
use Rattle.cc_model.specs.History.{history}
use Rattle.cc_model.specs.Settings.{log_of}
use Rattle.cc_writes.proofs.OneVisit.{grows-none}
use Rattle.cc_writes.proofs.Quiet.{holds_both}
use Rattle.cc_turns.proofs.Handles.{handle-below}
use Rattle.cc_writes.proofs.Flushing.{flush-book, logged-logless}
use Rattle.cc_writes.proofs.log.flush_log.Goals as goal

pub flush_of-requires-clause-log : goal.flush_of-requires-clause-log
flush_of-requires-clause-log g c =
    let w = g.T.Turns.standing c.args.turns.now in
    subst (λ (n : ℕ). log_of (history w.seen n) ≡ Some c.in-Some.handle) c.requires.book.stream
    (sym (c.log.ensures (w.setup.opening c.args.page.stream) w.seen c.requires.book.stands) ∙ c.in-Some.is)

pub flush_of-requires-clause-known : goal.flush_of-requires-clause-known
flush_of-requires-clause-known g c =
    let w = g.T.Turns.standing c.args.turns.now in
    handle-below w.setup w.seen c.args.page.stream c.in-Some.handle c.requires.book.good.legal
    (subst (λ (n : ℕ). log_of (history w.seen n) ≡ Some c.in-Some.handle) c.requires.book.stream
    (sym (c.log.ensures (w.setup.opening c.args.page.stream) w.seen c.requires.book.stands) ∙ c.in-Some.is))

pub returns-in-Some-clause-book : goal.returns-in-Some-clause-book
returns-in-Some-clause-book g c =
    let w = g.T.Turns.standing c.args.turns.now in
    let x = g.T.Turns.standing c.flush_of.new.turns in
    flush-book w.in_flight w x c.args.page c.args.book.now c.flush_of.result c.requires.book (holds_both w c.args.page.stream c.args.book.now c.requires.book c.requires.rest.device)
    c.flush_of.ensures.went c.flush_of.ensures.good c.flush_of.ensures.left

pub returns-in-None-clause-left : goal.returns-in-None-clause-left
returns-in-None-clause-left g c =
    let w = g.T.Turns.standing c.args.turns.now in (
      inl (grows-none w),
      logged-logless w.seen c.args.page.stream c.args.page.page c.requires.stamped
          (subst (λ (n : ℕ). log_of (history w.seen n) ≡ None) c.requires.book.stream
          (sym (c.log.ensures (w.setup.opening c.args.page.stream) w.seen c.requires.book.stands) ∙ c.in-None.is)),
    )
