-- One visit: the entry of a page that the disk failed to read uses the reserved place, keeps the journal good, which is
-- given with it, and halts the read.
use Rattle.std.specs.Prelude.{ℕ}
use Rattle.std.proofs.Common.{sym, subst, arith, ◌∙◌}
use Rattle.cc_book.specs.Book.{Gains}
use Rattle.cc_entry.specs.declared.call.Call.TheVariants as call
use Rattle.cc_entry.specs.declared.error.CcError.TheVariants as error
use Rattle.cc_turns.specs.Transfers.{fill_failed}
use Rattle.cc_turns.specs.Standing.{Standing}
use Rattle.cc_turns.specs.Takes.{without_journal}
use Rattle.cc_writes.specs.Hands.{HasBook, IsAtRest, WentWith}
use Rattle.cc_writes.specs.Visits.{HasPlaced}
use Rattle.cc_writes.specs.Ways.{IsHalted}
use Rattle.cc_writes.proofs.Visiting.{few-left, visiting}
use Rattle.cc_ranges.proofs.ReadFailing.{place, visited-failed, rest-failed, placed-failed, halted-failed}
use Rattle.cc_ranges.proofs.read_visits.unread_at.Goals as goal

pub place_unread-requires-clause-reserved : goal.place_unread-requires-clause-reserved
place_unread-requires-clause-reserved g c =
    let w = g.T.Turns.standing c.args.turns.now in
    let v = g.T.Turns.standing c.take_journal-journal.new.self in
    let posted = g.T.Post.PostRoutine.posted in
    let file = c.args.file in
    let b = c.args.book.now in
    let j = c.take_journal-journal.result in
    let here = c.requires.book.stream in
    let has = subst (λ (n : ℕ). HasBook w n b) (sym here) c.requires.book in
    let rest = subst (λ (n : ℕ). IsAtRest w n) (sym here) c.requires.rest in
    let vis = visiting posted w v b.stream b j has c.take_journal-journal.ensures.took c.take_journal-journal.ensures.stands in
    place posted w v file c.args.page b j j has vis here rest c.requires.reserved

pub place_unread-requires-clause-good : goal.place_unread-requires-clause-good
place_unread-requires-clause-good g c =
    let w = g.T.Turns.standing c.args.turns.now in
    let v = g.T.Turns.standing c.take_journal-journal.new.self in
    let posted = g.T.Post.PostRoutine.posted in
    let b = c.args.book.now in
    let j = c.take_journal-journal.result in
    let here = c.requires.book.stream in
    let has = subst (λ (n : ℕ). HasBook w n b) (sym here) c.requires.book in
    let vis = visiting posted w v b.stream b j has c.take_journal-journal.ensures.took c.take_journal-journal.ensures.stands in
    (w.setup, vis.stand.good)

pub give_journal-requires-clause-adds : goal.give_journal-requires-clause-adds
give_journal-requires-clause-adds g c =
    let w = g.T.Turns.standing c.args.turns.now in
    let v = g.T.Turns.standing c.take_journal-journal.new.self in
    let posted = g.T.Post.PostRoutine.posted in
    let file = c.args.file in
    let b = c.args.book.now in
    let j = c.take_journal-journal.result in
    let here = c.requires.book.stream in
    let has = subst (λ (n : ℕ). HasBook w n b) (sym here) c.requires.book in
    let rest = subst (λ (n : ℕ). IsAtRest w n) (sym here) c.requires.rest in
    let vis = visiting posted w v b.stream b j has c.take_journal-journal.ensures.took c.take_journal-journal.ensures.stands in
    let k = c.place_unread.new.journal in
    let gains = subst (λ (n : ℕ). Gains (fill_failed n file.stream c.args.page) j k) (c.me-pass.ensures ∙ vis.number_is) c.place_unread.ensures in
    let given = visited-failed posted w v file c.args.page b j k has vis here rest c.requires.reserved gains in
    given.adds

pub give_journal-requires-clause-stands : goal.give_journal-requires-clause-stands
give_journal-requires-clause-stands g c =
    let w = g.T.Turns.standing c.args.turns.now in
    let v = g.T.Turns.standing c.take_journal-journal.new.self in
    let posted = g.T.Post.PostRoutine.posted in
    let file = c.args.file in
    let b = c.args.book.now in
    let j = c.take_journal-journal.result in
    let here = c.requires.book.stream in
    let has = subst (λ (n : ℕ). HasBook w n b) (sym here) c.requires.book in
    let rest = subst (λ (n : ℕ). IsAtRest w n) (sym here) c.requires.rest in
    let vis = visiting posted w v b.stream b j has c.take_journal-journal.ensures.took c.take_journal-journal.ensures.stands in
    let k = c.place_unread.new.journal in
    let gains = subst (λ (n : ℕ). Gains (fill_failed n file.stream c.args.page) j k) (c.me-pass.ensures ∙ vis.number_is) c.place_unread.ensures in
    let given = visited-failed posted w v file c.args.page b j k has vis here rest c.requires.reserved gains in
    given.journal

pub give_journal-requires-clause-few : goal.give_journal-requires-clause-few
give_journal-requires-clause-few g c =
    let w = g.T.Turns.standing c.args.turns.now in
    let v = g.T.Turns.standing c.take_journal-journal.new.self in
    let posted = g.T.Post.PostRoutine.posted in
    let file = c.args.file in
    let b = c.args.book.now in
    let j = c.take_journal-journal.result in
    let here = c.requires.book.stream in
    let has = subst (λ (n : ℕ). HasBook w n b) (sym here) c.requires.book in
    let rest = subst (λ (n : ℕ). IsAtRest w n) (sym here) c.requires.rest in
    let vis = visiting posted w v b.stream b j has c.take_journal-journal.ensures.took c.take_journal-journal.ensures.stands in
    let k = c.place_unread.new.journal in
    let gains = subst (λ (n : ℕ). Gains (fill_failed n file.stream c.args.page) j k) (c.me-pass.ensures ∙ vis.number_is) c.place_unread.ensures in
    let given = visited-failed posted w v file c.args.page b j k has vis here rest c.requires.reserved gains in
    few-left 0 given.went (omega arith)

pub returns-clause-book : goal.returns-clause-book
returns-clause-book g c =
    let w = g.T.Turns.standing c.args.turns.now in
    let v = g.T.Turns.standing c.take_journal-journal.new.self in
    let posted = g.T.Post.PostRoutine.posted in
    let file = c.args.file in
    let b = c.args.book.now in
    let j = c.take_journal-journal.result in
    let here = c.requires.book.stream in
    let has = subst (λ (n : ℕ). HasBook w n b) (sym here) c.requires.book in
    let rest = subst (λ (n : ℕ). IsAtRest w n) (sym here) c.requires.rest in
    let vis = visiting posted w v b.stream b j has c.take_journal-journal.ensures.took c.take_journal-journal.ensures.stands in
    let k = c.place_unread.new.journal in
    let gains = subst (λ (n : ℕ). Gains (fill_failed n file.stream c.args.page) j k) (c.me-pass.ensures ∙ vis.number_is) c.place_unread.ensures in
    let given = visited-failed posted w v file c.args.page b j k has vis here rest c.requires.reserved gains in
    subst (λ (x : Standing). HasBook x file.stream b) (sym c.give_journal.ensures) (subst (λ (m : ℕ). HasBook (without_journal k v) m b) here given.book)

pub returns-clause-rest : goal.returns-clause-rest
returns-clause-rest g c =
    let w = g.T.Turns.standing c.args.turns.now in
    let v = g.T.Turns.standing c.take_journal-journal.new.self in
    let posted = g.T.Post.PostRoutine.posted in
    let file = c.args.file in
    let b = c.args.book.now in
    let j = c.take_journal-journal.result in
    let here = c.requires.book.stream in
    let has = subst (λ (n : ℕ). HasBook w n b) (sym here) c.requires.book in
    let rest = subst (λ (n : ℕ). IsAtRest w n) (sym here) c.requires.rest in
    let vis = visiting posted w v b.stream b j has c.take_journal-journal.ensures.took c.take_journal-journal.ensures.stands in
    let k = c.place_unread.new.journal in
    let gains = subst (λ (n : ℕ). Gains (fill_failed n file.stream c.args.page) j k) (c.me-pass.ensures ∙ vis.number_is) c.place_unread.ensures in
    subst (λ (x : Standing). IsAtRest x file.stream) (sym c.give_journal.ensures)
    (subst (λ (m : ℕ). IsAtRest (without_journal k v) m) here (rest-failed posted w v file c.args.page b j k has vis here rest c.requires.reserved gains))

pub returns-clause-went : goal.returns-clause-went
returns-clause-went g c =
    let w = g.T.Turns.standing c.args.turns.now in
    let v = g.T.Turns.standing c.take_journal-journal.new.self in
    let posted = g.T.Post.PostRoutine.posted in
    let file = c.args.file in
    let b = c.args.book.now in
    let j = c.take_journal-journal.result in
    let here = c.requires.book.stream in
    let has = subst (λ (n : ℕ). HasBook w n b) (sym here) c.requires.book in
    let rest = subst (λ (n : ℕ). IsAtRest w n) (sym here) c.requires.rest in
    let vis = visiting posted w v b.stream b j has c.take_journal-journal.ensures.took c.take_journal-journal.ensures.stands in
    let k = c.place_unread.new.journal in
    let gains = subst (λ (n : ℕ). Gains (fill_failed n file.stream c.args.page) j k) (c.me-pass.ensures ∙ vis.number_is) c.place_unread.ensures in
    let given = visited-failed posted w v file c.args.page b j k has vis here rest c.requires.reserved gains in
    subst (λ (x : Standing). WentWith 0 w x) (sym c.give_journal.ensures) given.went

pub returns-clause-placed : goal.returns-clause-placed
returns-clause-placed g c =
    let w = g.T.Turns.standing c.args.turns.now in
    let v = g.T.Turns.standing c.take_journal-journal.new.self in
    let posted = g.T.Post.PostRoutine.posted in
    let file = c.args.file in
    let b = c.args.book.now in
    let j = c.take_journal-journal.result in
    let here = c.requires.book.stream in
    let has = subst (λ (n : ℕ). HasBook w n b) (sym here) c.requires.book in
    let rest = subst (λ (n : ℕ). IsAtRest w n) (sym here) c.requires.rest in
    let vis = visiting posted w v b.stream b j has c.take_journal-journal.ensures.took c.take_journal-journal.ensures.stands in
    let k = c.place_unread.new.journal in
    let gains = subst (λ (n : ℕ). Gains (fill_failed n file.stream c.args.page) j k) (c.me-pass.ensures ∙ vis.number_is) c.place_unread.ensures in
    subst (λ (x : Standing). HasPlaced w (fill_failed w.number file.stream c.args.page) x.seen) (sym c.give_journal.ensures) (placed-failed posted w v file c.args.page b j k has vis here rest c.requires.reserved gains)

pub returns-clause-left : goal.returns-clause-left
returns-clause-left g c begun is =
    let w = g.T.Turns.standing c.args.turns.now in
    let v = g.T.Turns.standing c.take_journal-journal.new.self in
    let posted = g.T.Post.PostRoutine.posted in
    let file = c.args.file in
    let b = c.args.book.now in
    let j = c.take_journal-journal.result in
    let here = c.requires.book.stream in
    let has = subst (λ (n : ℕ). HasBook w n b) (sym here) c.requires.book in
    let rest = subst (λ (n : ℕ). IsAtRest w n) (sym here) c.requires.rest in
    let vis = visiting posted w v b.stream b j has c.take_journal-journal.ensures.took c.take_journal-journal.ensures.stands in
    let k = c.place_unread.new.journal in
    let gains = subst (λ (n : ℕ). Gains (fill_failed n file.stream c.args.page) j k) (c.me-pass.ensures ∙ vis.number_is) c.place_unread.ensures in
    subst (λ (x : Standing). IsHalted w.setup w.number file.stream (call.NcRead file c.args.page) (error.ReadFault c.args.page) begun x.seen) (sym c.give_journal.ensures)
    (halted-failed posted w v file c.args.page b j k has vis here rest c.requires.reserved gains begun is)
