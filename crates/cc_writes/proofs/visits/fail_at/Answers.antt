-- One visit: the fault may end the call on the journal that was taken; the entry tells it, or what refuses meanwhile.
use Rattle.std.specs.Prelude.{Err}
use Rattle.std.proofs.Common.{sym, subst, arith}
use Rattle.cc_entry.specs.declared.error.CcError.{CcError}
use Rattle.cc_entry.specs.declared.reply.Outcome.TheVariants as outcome
use Rattle.cc_effects.specs.Calls.{CallLeft}
use Rattle.cc_turns.specs.Standing.{Standing}
use Rattle.cc_effects.specs.Begins.{BeginsNone, TakesNoneOut}
use Rattle.cc_writes.specs.Alone.{NobodyElseChanged}
use Rattle.cc_writes.specs.Hands.{HasBook, SameDisk, WentWith}
use Rattle.cc_writes.specs.Told.{fault_answer}
use Rattle.cc_writes.specs.Ways.{IsFull, IsCallReason}
use Rattle.cc_writes.proofs.Failing.{is-fault, fail-as, has-failed, visited-fail, disk-fail, begun-fail, stays-fail, alone-fail, left-fail, reason-fail, full-fail}
use Rattle.cc_writes.proofs.Resting.{filed-now}
use Rattle.cc_writes.proofs.Visiting.{few-left, visiting}
use Rattle.cc_writes.proofs.visits.fail_at.Goals as goal

pub fail-ended-requires-clause-fault : goal.fail-ended-requires-clause-fault
fail-ended-requires-clause-fault g c =
    let w = g.T.Turns.standing c.args.turns.now in
    let v = g.T.Turns.standing c.take_journal-journal.new.self in
    let posted = g.T.Post.PostRoutine.posted in
    let b = c.args.book.now in
    let j = c.take_journal-journal.result in
    let vis = visiting posted w v b.stream b j c.requires.book c.take_journal-journal.ensures.took c.take_journal-journal.ensures.stands in
    is-fault posted w v c.args.call b b j j c.requires.book vis c.requires.answered (filed-now w b.stream c.args.call c.requires.filed) c.args.fault c.requires.listed c.requires.halted.0 c.requires.halted.1

pub fail-ended-requires-clause-may : goal.fail-ended-requires-clause-may
fail-ended-requires-clause-may g c =
    let w = g.T.Turns.standing c.args.turns.now in
    let v = g.T.Turns.standing c.take_journal-journal.new.self in
    let posted = g.T.Post.PostRoutine.posted in
    let b = c.args.book.now in
    let j = c.take_journal-journal.result in
    let vis = visiting posted w v b.stream b j c.requires.book c.take_journal-journal.ensures.took c.take_journal-journal.ensures.stands in
    (w.setup, fail-as posted w v c.args.call b b j j c.requires.book vis c.requires.answered (filed-now w b.stream c.args.call c.requires.filed) c.args.fault c.requires.listed c.requires.halted.0 c.requires.halted.1 c.me-pass.result c.me-pass.ensures)

pub give_journal-requires-clause-adds : goal.give_journal-requires-clause-adds
give_journal-requires-clause-adds g c =
    let w = g.T.Turns.standing c.args.turns.now in
    let v = g.T.Turns.standing c.take_journal-journal.new.self in
    let posted = g.T.Post.PostRoutine.posted in
    let b = c.args.book.now in
    let j = c.take_journal-journal.result in
    let vis = visiting posted w v b.stream b j c.requires.book c.take_journal-journal.ensures.took c.take_journal-journal.ensures.stands in
    let n = c.fail-ended.new.book in
    let k = c.fail-ended.new.journal in
    let left = has-failed posted w v c.args.call b n j k c.requires.book vis c.requires.answered (filed-now w b.stream c.args.call c.requires.filed) c.args.fault c.requires.listed c.requires.halted.0 c.requires.halted.1 c.me-pass.result c.fail-ended.result c.me-pass.ensures c.fail-ended.ensures in
    let given = visited-fail posted w v c.args.call b n j k c.requires.book vis c.requires.answered (filed-now w b.stream c.args.call c.requires.filed) c.args.fault c.requires.listed c.requires.halted.0 c.requires.halted.1 c.fail-ended.result left in
    given.adds

pub give_journal-requires-clause-stands : goal.give_journal-requires-clause-stands
give_journal-requires-clause-stands g c =
    let w = g.T.Turns.standing c.args.turns.now in
    let v = g.T.Turns.standing c.take_journal-journal.new.self in
    let posted = g.T.Post.PostRoutine.posted in
    let b = c.args.book.now in
    let j = c.take_journal-journal.result in
    let vis = visiting posted w v b.stream b j c.requires.book c.take_journal-journal.ensures.took c.take_journal-journal.ensures.stands in
    let n = c.fail-ended.new.book in
    let k = c.fail-ended.new.journal in
    let left = has-failed posted w v c.args.call b n j k c.requires.book vis c.requires.answered (filed-now w b.stream c.args.call c.requires.filed) c.args.fault c.requires.listed c.requires.halted.0 c.requires.halted.1 c.me-pass.result c.fail-ended.result c.me-pass.ensures c.fail-ended.ensures in
    let given = visited-fail posted w v c.args.call b n j k c.requires.book vis c.requires.answered (filed-now w b.stream c.args.call c.requires.filed) c.args.fault c.requires.listed c.requires.halted.0 c.requires.halted.1 c.fail-ended.result left in
    given.journal

pub give_journal-requires-clause-few : goal.give_journal-requires-clause-few
give_journal-requires-clause-few g c =
    let w = g.T.Turns.standing c.args.turns.now in
    let v = g.T.Turns.standing c.take_journal-journal.new.self in
    let posted = g.T.Post.PostRoutine.posted in
    let b = c.args.book.now in
    let j = c.take_journal-journal.result in
    let vis = visiting posted w v b.stream b j c.requires.book c.take_journal-journal.ensures.took c.take_journal-journal.ensures.stands in
    let n = c.fail-ended.new.book in
    let k = c.fail-ended.new.journal in
    let left = has-failed posted w v c.args.call b n j k c.requires.book vis c.requires.answered (filed-now w b.stream c.args.call c.requires.filed) c.args.fault c.requires.listed c.requires.halted.0 c.requires.halted.1 c.me-pass.result c.fail-ended.result c.me-pass.ensures c.fail-ended.ensures in
    let given = visited-fail posted w v c.args.call b n j k c.requires.book vis c.requires.answered (filed-now w b.stream c.args.call c.requires.filed) c.args.fault c.requires.listed c.requires.halted.0 c.requires.halted.1 c.fail-ended.result left in
    few-left w.in_flight given.went (omega (arith, c.requires.none))

pub returns-clause-book : goal.returns-clause-book
returns-clause-book g c =
    let w = g.T.Turns.standing c.args.turns.now in
    let v = g.T.Turns.standing c.take_journal-journal.new.self in
    let posted = g.T.Post.PostRoutine.posted in
    let b = c.args.book.now in
    let j = c.take_journal-journal.result in
    let vis = visiting posted w v b.stream b j c.requires.book c.take_journal-journal.ensures.took c.take_journal-journal.ensures.stands in
    let n = c.fail-ended.new.book in
    let k = c.fail-ended.new.journal in
    let left = has-failed posted w v c.args.call b n j k c.requires.book vis c.requires.answered (filed-now w b.stream c.args.call c.requires.filed) c.args.fault c.requires.listed c.requires.halted.0 c.requires.halted.1 c.me-pass.result c.fail-ended.result c.me-pass.ensures c.fail-ended.ensures in
    let given = visited-fail posted w v c.args.call b n j k c.requires.book vis c.requires.answered (filed-now w b.stream c.args.call c.requires.filed) c.args.fault c.requires.listed c.requires.halted.0 c.requires.halted.1 c.fail-ended.result left in
    subst (λ (x : Standing). HasBook x b.stream n) (sym c.give_journal.ensures) given.book

pub returns-clause-went : goal.returns-clause-went
returns-clause-went g c =
    let w = g.T.Turns.standing c.args.turns.now in
    let v = g.T.Turns.standing c.take_journal-journal.new.self in
    let posted = g.T.Post.PostRoutine.posted in
    let b = c.args.book.now in
    let j = c.take_journal-journal.result in
    let vis = visiting posted w v b.stream b j c.requires.book c.take_journal-journal.ensures.took c.take_journal-journal.ensures.stands in
    let n = c.fail-ended.new.book in
    let k = c.fail-ended.new.journal in
    let left = has-failed posted w v c.args.call b n j k c.requires.book vis c.requires.answered (filed-now w b.stream c.args.call c.requires.filed) c.args.fault c.requires.listed c.requires.halted.0 c.requires.halted.1 c.me-pass.result c.fail-ended.result c.me-pass.ensures c.fail-ended.ensures in
    let given = visited-fail posted w v c.args.call b n j k c.requires.book vis c.requires.answered (filed-now w b.stream c.args.call c.requires.filed) c.args.fault c.requires.listed c.requires.halted.0 c.requires.halted.1 c.fail-ended.result left in
    subst (λ (x : Standing). WentWith w.in_flight w x) (sym c.give_journal.ensures) given.went

pub returns-clause-disk : goal.returns-clause-disk
returns-clause-disk g c device =
    let w = g.T.Turns.standing c.args.turns.now in
    let v = g.T.Turns.standing c.take_journal-journal.new.self in
    let posted = g.T.Post.PostRoutine.posted in
    let b = c.args.book.now in
    let j = c.take_journal-journal.result in
    let vis = visiting posted w v b.stream b j c.requires.book c.take_journal-journal.ensures.took c.take_journal-journal.ensures.stands in
    let n = c.fail-ended.new.book in
    let k = c.fail-ended.new.journal in
    let left = has-failed posted w v c.args.call b n j k c.requires.book vis c.requires.answered (filed-now w b.stream c.args.call c.requires.filed) c.args.fault c.requires.listed c.requires.halted.0 c.requires.halted.1 c.me-pass.result c.fail-ended.result c.me-pass.ensures c.fail-ended.ensures in
    subst (λ (x : Standing). SameDisk w.seen x.seen b.stream) (sym c.give_journal.ensures) (disk-fail posted w v c.args.call b n j k c.requires.book vis c.requires.answered (filed-now w b.stream c.args.call c.requires.filed) c.args.fault c.requires.listed c.requires.halted.0 c.requires.halted.1 device c.fail-ended.result left)

pub returns-clause-begun : goal.returns-clause-begun
returns-clause-begun g c =
    let w = g.T.Turns.standing c.args.turns.now in
    let v = g.T.Turns.standing c.take_journal-journal.new.self in
    let posted = g.T.Post.PostRoutine.posted in
    let b = c.args.book.now in
    let j = c.take_journal-journal.result in
    let vis = visiting posted w v b.stream b j c.requires.book c.take_journal-journal.ensures.took c.take_journal-journal.ensures.stands in
    let n = c.fail-ended.new.book in
    let k = c.fail-ended.new.journal in
    let left = has-failed posted w v c.args.call b n j k c.requires.book vis c.requires.answered (filed-now w b.stream c.args.call c.requires.filed) c.args.fault c.requires.listed c.requires.halted.0 c.requires.halted.1 c.me-pass.result c.fail-ended.result c.me-pass.ensures c.fail-ended.ensures in
    subst (λ (x : Standing). BeginsNone w.number w.seen x.seen) (sym c.give_journal.ensures) (begun-fail posted w v c.args.call b n j k c.requires.book vis c.requires.answered (filed-now w b.stream c.args.call c.requires.filed) c.args.fault c.requires.listed c.requires.halted.0 c.requires.halted.1 c.fail-ended.result left)

pub returns-clause-stays : goal.returns-clause-stays
returns-clause-stays g c =
    let w = g.T.Turns.standing c.args.turns.now in
    let v = g.T.Turns.standing c.take_journal-journal.new.self in
    let posted = g.T.Post.PostRoutine.posted in
    let b = c.args.book.now in
    let j = c.take_journal-journal.result in
    let vis = visiting posted w v b.stream b j c.requires.book c.take_journal-journal.ensures.took c.take_journal-journal.ensures.stands in
    let n = c.fail-ended.new.book in
    let k = c.fail-ended.new.journal in
    let left = has-failed posted w v c.args.call b n j k c.requires.book vis c.requires.answered (filed-now w b.stream c.args.call c.requires.filed) c.args.fault c.requires.listed c.requires.halted.0 c.requires.halted.1 c.me-pass.result c.fail-ended.result c.me-pass.ensures c.fail-ended.ensures in
    subst (λ (x : Standing). TakesNoneOut w.number w.seen x.seen) (sym c.give_journal.ensures) (stays-fail posted w v c.args.call b n j k c.requires.book vis c.requires.answered (filed-now w b.stream c.args.call c.requires.filed) c.args.fault c.requires.listed c.requires.halted.0 c.requires.halted.1 c.fail-ended.result left)

pub returns-clause-alone : goal.returns-clause-alone
returns-clause-alone g c device =
    let w = g.T.Turns.standing c.args.turns.now in
    let v = g.T.Turns.standing c.take_journal-journal.new.self in
    let posted = g.T.Post.PostRoutine.posted in
    let b = c.args.book.now in
    let j = c.take_journal-journal.result in
    let vis = visiting posted w v b.stream b j c.requires.book c.take_journal-journal.ensures.took c.take_journal-journal.ensures.stands in
    let n = c.fail-ended.new.book in
    let k = c.fail-ended.new.journal in
    let left = has-failed posted w v c.args.call b n j k c.requires.book vis c.requires.answered (filed-now w b.stream c.args.call c.requires.filed) c.args.fault c.requires.listed c.requires.halted.0 c.requires.halted.1 c.me-pass.result c.fail-ended.result c.me-pass.ensures c.fail-ended.ensures in
    subst (λ (x : Standing). NobodyElseChanged w.number b.stream w.seen x.seen) (sym c.give_journal.ensures) (alone-fail posted w v c.args.call b n j k c.requires.book vis c.requires.answered (filed-now w b.stream c.args.call c.requires.filed) c.args.fault c.requires.listed c.requires.halted.0 c.requires.halted.1 device c.fail-ended.result left)

pub returns-clause-left : goal.returns-clause-left
returns-clause-left g c begun halted =
    let w = g.T.Turns.standing c.args.turns.now in
    let v = g.T.Turns.standing c.take_journal-journal.new.self in
    let posted = g.T.Post.PostRoutine.posted in
    let b = c.args.book.now in
    let j = c.take_journal-journal.result in
    let vis = visiting posted w v b.stream b j c.requires.book c.take_journal-journal.ensures.took c.take_journal-journal.ensures.stands in
    let n = c.fail-ended.new.book in
    let k = c.fail-ended.new.journal in
    let left = has-failed posted w v c.args.call b n j k c.requires.book vis c.requires.answered (filed-now w b.stream c.args.call c.requires.filed) c.args.fault c.requires.listed c.requires.halted.0 c.requires.halted.1 c.me-pass.result c.fail-ended.result c.me-pass.ensures c.fail-ended.ensures in
    let ended = left-fail posted w v c.args.call b n j k c.requires.book vis c.requires.answered (filed-now w b.stream c.args.call c.requires.filed) c.args.fault c.requires.listed c.requires.halted.0 c.requires.halted.1 begun halted c.fail-ended.result left in
    subst (λ (e : CcError). CallLeft w.setup w.number c.args.call (outcome.Failed e) begun (g.T.Turns.standing c.give_journal.new.self).seen) (sym c.answer_of.ensures)
    (subst (λ (x : Standing). CallLeft w.setup w.number c.args.call (outcome.Failed (fault_answer c.fail-ended.result c.args.fault)) begun x.seen) (sym c.give_journal.ensures) ended)

pub returns-clause-full : goal.returns-clause-full
returns-clause-full g c =
    let w = g.T.Turns.standing c.args.turns.now in
    let v = g.T.Turns.standing c.take_journal-journal.new.self in
    let posted = g.T.Post.PostRoutine.posted in
    let b = c.args.book.now in
    let j = c.take_journal-journal.result in
    let vis = visiting posted w v b.stream b j c.requires.book c.take_journal-journal.ensures.took c.take_journal-journal.ensures.stands in
    let n = c.fail-ended.new.book in
    let k = c.fail-ended.new.journal in
    let left = has-failed posted w v c.args.call b n j k c.requires.book vis c.requires.answered (filed-now w b.stream c.args.call c.requires.filed) c.args.fault c.requires.listed c.requires.halted.0 c.requires.halted.1 c.me-pass.result c.fail-ended.result c.me-pass.ensures c.fail-ended.ensures in
    let full = full-fail posted w v c.args.call b n j k c.requires.book vis c.requires.answered (filed-now w b.stream c.args.call c.requires.filed) c.args.fault c.requires.listed c.requires.halted.0 c.requires.halted.1 c.fail-ended.result left in
    subst (λ (e : CcError). IsFull {A = Unit {0}} 1 (g.T.Turns.standing c.give_journal.new.self) (Err e)) (sym c.answer_of.ensures)
    (subst (λ (x : Standing). IsFull {A = Unit {0}} 1 x (Err (fault_answer c.fail-ended.result c.args.fault))) (sym c.give_journal.ensures) full)

pub returns-clause-reason : goal.returns-clause-reason
returns-clause-reason g c =
    let w = g.T.Turns.standing c.args.turns.now in
    let v = g.T.Turns.standing c.take_journal-journal.new.self in
    let posted = g.T.Post.PostRoutine.posted in
    let b = c.args.book.now in
    let j = c.take_journal-journal.result in
    let vis = visiting posted w v b.stream b j c.requires.book c.take_journal-journal.ensures.took c.take_journal-journal.ensures.stands in
    let n = c.fail-ended.new.book in
    let k = c.fail-ended.new.journal in
    let left = has-failed posted w v c.args.call b n j k c.requires.book vis c.requires.answered (filed-now w b.stream c.args.call c.requires.filed) c.args.fault c.requires.listed c.requires.halted.0 c.requires.halted.1 c.me-pass.result c.fail-ended.result c.me-pass.ensures c.fail-ended.ensures in
    subst (λ (e : CcError). IsCallReason w.setup b.stream c.args.call e) (sym c.answer_of.ensures)
    (reason-fail posted w v c.args.call b n j k c.requires.book vis c.requires.answered (filed-now w b.stream c.args.call c.requires.filed) c.args.fault c.requires.listed c.requires.halted.0 c.requires.halted.1 c.fail-ended.result left)
