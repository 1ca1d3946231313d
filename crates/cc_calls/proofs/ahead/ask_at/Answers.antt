-- One visit: the call may step on the journal that was taken, and what it left is what the visit leaves.
use Rattle.std.specs.Prelude.{ℕ, Some}
use Rattle.std.proofs.Common.{ap, sym, subst, arith}
use Rattle.cc_turns.specs.Standing.{Standing}
use Rattle.cc_writes.specs.Hands.{HasBook}
use Rattle.cc_writes.proofs.Visiting.{few-left, visiting}
use Rattle.cc_calls.proofs.AskedAhead.{asked-ends, may-step-asked, own-asked, visited-asked}
use Rattle.cc_calls.proofs.ahead.ask_at.Goals as goal

pub ask_in-asked-requires-clause-may : goal.ask_in-asked-requires-clause-may
ask_in-asked-requires-clause-may g c =
    let w = g.T.Turns.standing c.args.turns.now in
    let v = g.T.Turns.standing c.take_journal-journal.new.self in
    let posted = g.T.Post.PostRoutine.posted in
    let b = c.args.book.now in
    let j = c.take_journal-journal.result in
    let vis = visiting posted w v b.stream b j c.requires.book c.take_journal-journal.ensures.took c.take_journal-journal.ensures.stands in
    (w.setup, may-step-asked posted w v c.args.file c.args.at c.args.len b b j j c.requires.book vis (ap (λ (s : ℕ). Some s) c.requires.filed) c.me-pass.result c.me-pass.ensures)

pub give_journal-requires-clause-adds : goal.give_journal-requires-clause-adds
give_journal-requires-clause-adds g c =
    let w = g.T.Turns.standing c.args.turns.now in
    let v = g.T.Turns.standing c.take_journal-journal.new.self in
    let posted = g.T.Post.PostRoutine.posted in
    let b = c.args.book.now in
    let n = c.ask_in-asked.new.book in
    let j = c.take_journal-journal.result in
    let k = c.ask_in-asked.new.journal in
    let vis = visiting posted w v b.stream b j c.requires.book c.take_journal-journal.ensures.took c.take_journal-journal.ensures.stands in
    let filed = ap (λ (s : ℕ). Some s) c.requires.filed in
    let left = own-asked posted w v c.args.file c.args.at c.args.len b n j k c.requires.book vis filed c.me-pass.result c.ask_in-asked.result c.me-pass.ensures c.ask_in-asked.ensures.left in
    let given = visited-asked posted w v c.args.file c.args.at c.args.len b n j k c.requires.book vis filed c.ask_in-asked.result left in
    given.adds

pub give_journal-requires-clause-stands : goal.give_journal-requires-clause-stands
give_journal-requires-clause-stands g c =
    let w = g.T.Turns.standing c.args.turns.now in
    let v = g.T.Turns.standing c.take_journal-journal.new.self in
    let posted = g.T.Post.PostRoutine.posted in
    let b = c.args.book.now in
    let n = c.ask_in-asked.new.book in
    let j = c.take_journal-journal.result in
    let k = c.ask_in-asked.new.journal in
    let vis = visiting posted w v b.stream b j c.requires.book c.take_journal-journal.ensures.took c.take_journal-journal.ensures.stands in
    let filed = ap (λ (s : ℕ). Some s) c.requires.filed in
    let left = own-asked posted w v c.args.file c.args.at c.args.len b n j k c.requires.book vis filed c.me-pass.result c.ask_in-asked.result c.me-pass.ensures c.ask_in-asked.ensures.left in
    let given = visited-asked posted w v c.args.file c.args.at c.args.len b n j k c.requires.book vis filed c.ask_in-asked.result left in
    given.journal

pub give_journal-requires-clause-few : goal.give_journal-requires-clause-few
give_journal-requires-clause-few g c =
    let w = g.T.Turns.standing c.args.turns.now in
    let v = g.T.Turns.standing c.take_journal-journal.new.self in
    let posted = g.T.Post.PostRoutine.posted in
    let b = c.args.book.now in
    let n = c.ask_in-asked.new.book in
    let j = c.take_journal-journal.result in
    let k = c.ask_in-asked.new.journal in
    let vis = visiting posted w v b.stream b j c.requires.book c.take_journal-journal.ensures.took c.take_journal-journal.ensures.stands in
    let filed = ap (λ (s : ℕ). Some s) c.requires.filed in
    let left = own-asked posted w v c.args.file c.args.at c.args.len b n j k c.requires.book vis filed c.me-pass.result c.ask_in-asked.result c.me-pass.ensures c.ask_in-asked.ensures.left in
    let given = visited-asked posted w v c.args.file c.args.at c.args.len b n j k c.requires.book vis filed c.ask_in-asked.result left in
    few-left w.in_flight given.went (omega (arith, c.requires.none))

pub returns-clause-book : goal.returns-clause-book
returns-clause-book g c =
    let w = g.T.Turns.standing c.args.turns.now in
    let v = g.T.Turns.standing c.take_journal-journal.new.self in
    let posted = g.T.Post.PostRoutine.posted in
    let b = c.args.book.now in
    let n = c.ask_in-asked.new.book in
    let j = c.take_journal-journal.result in
    let k = c.ask_in-asked.new.journal in
    let vis = visiting posted w v b.stream b j c.requires.book c.take_journal-journal.ensures.took c.take_journal-journal.ensures.stands in
    let filed = ap (λ (s : ℕ). Some s) c.requires.filed in
    let left = own-asked posted w v c.args.file c.args.at c.args.len b n j k c.requires.book vis filed c.me-pass.result c.ask_in-asked.result c.me-pass.ensures c.ask_in-asked.ensures.left in
    let given = visited-asked posted w v c.args.file c.args.at c.args.len b n j k c.requires.book vis filed c.ask_in-asked.result left in
    subst (λ (x : Standing). HasBook x b.stream n) (sym c.give_journal.ensures) given.book

pub returns-clause-ends : goal.returns-clause-ends
returns-clause-ends g c =
    let w = g.T.Turns.standing c.args.turns.now in
    let v = g.T.Turns.standing c.take_journal-journal.new.self in
    let posted = g.T.Post.PostRoutine.posted in
    let b = c.args.book.now in
    let n = c.ask_in-asked.new.book in
    let j = c.take_journal-journal.result in
    let k = c.ask_in-asked.new.journal in
    let vis = visiting posted w v b.stream b j c.requires.book c.take_journal-journal.ensures.took c.take_journal-journal.ensures.stands in
    let filed = ap (λ (s : ℕ). Some s) c.requires.filed in
    let left = own-asked posted w v c.args.file c.args.at c.args.len b n j k c.requires.book vis filed c.me-pass.result c.ask_in-asked.result c.me-pass.ensures c.ask_in-asked.ensures.left in
    asked-ends posted w v c.args.file c.args.at c.args.len b n j k c.requires.book vis filed (g.T.Turns.standing c.give_journal.new.self) c.give_journal.ensures c.ask_in-asked.result left
