-- One visit: the call may step on the journal that was taken, and what it left is what the visit tries.
use Rattle.std.specs.Prelude.{ℕ, ◌<◌}
use Rattle.std.proofs.Common.{sym, ◌∙◌, subst, arith}
use Rattle.cc_step.proofs.Failing.{stepped-answered}
use Rattle.cc_turns.specs.Standing.{Standing}
use Rattle.cc_writes.specs.Hands.{HasBook, WentWith}
use Rattle.cc_writes.specs.Visits.{TriedLeft, IsFullTried}
use Rattle.cc_writes.proofs.Attempting.{may-as, attempted, fits-attempt, visited-attempt, left-attempt, full-attempt}
use Rattle.cc_writes.proofs.Visiting.{few-left, visiting}
use Rattle.cc_writes.proofs.visits.attempt_at.Goals as goal

pub attempt-ended-requires-clause-may : goal.attempt-ended-requires-clause-may
attempt-ended-requires-clause-may g c =
    let w = g.T.Turns.standing c.args.turns.now in
    let v = g.T.Turns.standing c.take_journal-journal.new.self in
    let posted = g.T.Post.PostRoutine.posted in
    let b = c.args.book.now in
    let j = c.take_journal-journal.result in
    let vis = visiting posted w v b.stream b j c.requires.book c.take_journal-journal.ensures.took c.take_journal-journal.ensures.stands in
    (w.setup, may-as posted w v c.args.call b b j j c.requires.book vis (stepped-answered c.args.call c.requires.stepped) c.requires.filed c.me-pass.result c.me-pass.ensures)

pub told_course-course-requires : goal.told_course-course-requires
told_course-course-requires g c =
    let w = g.T.Turns.standing c.args.turns.now in
    let v = g.T.Turns.standing c.take_journal-journal.new.self in
    let posted = g.T.Post.PostRoutine.posted in
    let b = c.args.book.now in
    let j = c.take_journal-journal.result in
    let vis = visiting posted w v b.stream b j c.requires.book c.take_journal-journal.ensures.took c.take_journal-journal.ensures.stands in
    let n = c.attempt-ended.new.book in
    let k = c.attempt-ended.new.journal in
    let left = attempted posted w v c.args.call b n j k c.requires.book vis (stepped-answered c.args.call c.requires.stepped) c.requires.filed c.me-pass.result c.attempt-ended.result c.me-pass.ensures c.attempt-ended.ensures in
    record { fits = fits-attempt posted w v c.args.call b n j k c.requires.book vis (stepped-answered c.args.call c.requires.stepped) c.requires.filed c.requires.stepped c.attempt-ended.result c.args.out.now left c.requires.fits }

pub give_journal-requires-clause-adds : goal.give_journal-requires-clause-adds
give_journal-requires-clause-adds g c =
    let w = g.T.Turns.standing c.args.turns.now in
    let v = g.T.Turns.standing c.take_journal-journal.new.self in
    let posted = g.T.Post.PostRoutine.posted in
    let b = c.args.book.now in
    let j = c.take_journal-journal.result in
    let vis = visiting posted w v b.stream b j c.requires.book c.take_journal-journal.ensures.took c.take_journal-journal.ensures.stands in
    let n = c.attempt-ended.new.book in
    let k = c.attempt-ended.new.journal in
    let left = attempted posted w v c.args.call b n j k c.requires.book vis (stepped-answered c.args.call c.requires.stepped) c.requires.filed c.me-pass.result c.attempt-ended.result c.me-pass.ensures c.attempt-ended.ensures in
    let given = visited-attempt posted w v c.args.call b n j k c.requires.book vis (stepped-answered c.args.call c.requires.stepped) c.requires.filed c.requires.stepped c.attempt-ended.result left in
    given.adds

pub give_journal-requires-clause-stands : goal.give_journal-requires-clause-stands
give_journal-requires-clause-stands g c =
    let w = g.T.Turns.standing c.args.turns.now in
    let v = g.T.Turns.standing c.take_journal-journal.new.self in
    let posted = g.T.Post.PostRoutine.posted in
    let b = c.args.book.now in
    let j = c.take_journal-journal.result in
    let vis = visiting posted w v b.stream b j c.requires.book c.take_journal-journal.ensures.took c.take_journal-journal.ensures.stands in
    let n = c.attempt-ended.new.book in
    let k = c.attempt-ended.new.journal in
    let left = attempted posted w v c.args.call b n j k c.requires.book vis (stepped-answered c.args.call c.requires.stepped) c.requires.filed c.me-pass.result c.attempt-ended.result c.me-pass.ensures c.attempt-ended.ensures in
    let given = visited-attempt posted w v c.args.call b n j k c.requires.book vis (stepped-answered c.args.call c.requires.stepped) c.requires.filed c.requires.stepped c.attempt-ended.result left in
    given.journal

pub give_journal-requires-clause-few : goal.give_journal-requires-clause-few
give_journal-requires-clause-few g c =
    let w = g.T.Turns.standing c.args.turns.now in
    let v = g.T.Turns.standing c.take_journal-journal.new.self in
    let posted = g.T.Post.PostRoutine.posted in
    let b = c.args.book.now in
    let j = c.take_journal-journal.result in
    let vis = visiting posted w v b.stream b j c.requires.book c.take_journal-journal.ensures.took c.take_journal-journal.ensures.stands in
    let n = c.attempt-ended.new.book in
    let k = c.attempt-ended.new.journal in
    let left = attempted posted w v c.args.call b n j k c.requires.book vis (stepped-answered c.args.call c.requires.stepped) c.requires.filed c.me-pass.result c.attempt-ended.result c.me-pass.ensures c.attempt-ended.ensures in
    let given = visited-attempt posted w v c.args.call b n j k c.requires.book vis (stepped-answered c.args.call c.requires.stepped) c.requires.filed c.requires.stepped c.attempt-ended.result left in
    few-left w.in_flight given.went (omega (arith, c.requires.none))

pub returns-clause-book : goal.returns-clause-book
returns-clause-book g c =
    let w = g.T.Turns.standing c.args.turns.now in
    let v = g.T.Turns.standing c.take_journal-journal.new.self in
    let posted = g.T.Post.PostRoutine.posted in
    let b = c.args.book.now in
    let j = c.take_journal-journal.result in
    let vis = visiting posted w v b.stream b j c.requires.book c.take_journal-journal.ensures.took c.take_journal-journal.ensures.stands in
    let n = c.attempt-ended.new.book in
    let k = c.attempt-ended.new.journal in
    let left = attempted posted w v c.args.call b n j k c.requires.book vis (stepped-answered c.args.call c.requires.stepped) c.requires.filed c.me-pass.result c.attempt-ended.result c.me-pass.ensures c.attempt-ended.ensures in
    let given = visited-attempt posted w v c.args.call b n j k c.requires.book vis (stepped-answered c.args.call c.requires.stepped) c.requires.filed c.requires.stepped c.attempt-ended.result left in
    subst (λ (x : Standing). HasBook x b.stream n) (sym c.give_journal.ensures) given.book

pub returns-clause-went : goal.returns-clause-went
returns-clause-went g c =
    let w = g.T.Turns.standing c.args.turns.now in
    let v = g.T.Turns.standing c.take_journal-journal.new.self in
    let posted = g.T.Post.PostRoutine.posted in
    let b = c.args.book.now in
    let j = c.take_journal-journal.result in
    let vis = visiting posted w v b.stream b j c.requires.book c.take_journal-journal.ensures.took c.take_journal-journal.ensures.stands in
    let n = c.attempt-ended.new.book in
    let k = c.attempt-ended.new.journal in
    let left = attempted posted w v c.args.call b n j k c.requires.book vis (stepped-answered c.args.call c.requires.stepped) c.requires.filed c.me-pass.result c.attempt-ended.result c.me-pass.ensures c.attempt-ended.ensures in
    let given = visited-attempt posted w v c.args.call b n j k c.requires.book vis (stepped-answered c.args.call c.requires.stepped) c.requires.filed c.requires.stepped c.attempt-ended.result left in
    subst (λ (x : Standing). WentWith w.in_flight w x) (sym c.give_journal.ensures) given.went

pub returns-clause-left : goal.returns-clause-left
returns-clause-left g c begun way =
    let w = g.T.Turns.standing c.args.turns.now in
    let v = g.T.Turns.standing c.take_journal-journal.new.self in
    let posted = g.T.Post.PostRoutine.posted in
    let b = c.args.book.now in
    let j = c.take_journal-journal.result in
    let vis = visiting posted w v b.stream b j c.requires.book c.take_journal-journal.ensures.took c.take_journal-journal.ensures.stands in
    let n = c.attempt-ended.new.book in
    let k = c.attempt-ended.new.journal in
    let left = attempted posted w v c.args.call b n j k c.requires.book vis (stepped-answered c.args.call c.requires.stepped) c.requires.filed c.me-pass.result c.attempt-ended.result c.me-pass.ensures c.attempt-ended.ensures in
    let known = subst (λ (m : ℕ). m < 16) (c.number-stream.ensures.same ∙ c.stream.ensures) c.number-stream.ensures.in_range in
    let ended = left-attempt posted w v c.args.call b n j k c.requires.book vis (stepped-answered c.args.call c.requires.stepped) c.requires.filed c.requires.stepped known c.attempt-ended.result c.told_course-course.result c.args.out.now c.told_course-course.new.out left c.told_course-course.ensures begun way in
    subst (λ (x : Standing). TriedLeft w.setup w.number b.stream c.args.call c.told_course-course.result begun x.seen c.args.out.now c.told_course-course.new.out) (sym c.give_journal.ensures) ended

pub returns-clause-full : goal.returns-clause-full
returns-clause-full g c =
    let w = g.T.Turns.standing c.args.turns.now in
    let v = g.T.Turns.standing c.take_journal-journal.new.self in
    let posted = g.T.Post.PostRoutine.posted in
    let b = c.args.book.now in
    let j = c.take_journal-journal.result in
    let vis = visiting posted w v b.stream b j c.requires.book c.take_journal-journal.ensures.took c.take_journal-journal.ensures.stands in
    let n = c.attempt-ended.new.book in
    let k = c.attempt-ended.new.journal in
    let left = attempted posted w v c.args.call b n j k c.requires.book vis (stepped-answered c.args.call c.requires.stepped) c.requires.filed c.me-pass.result c.attempt-ended.result c.me-pass.ensures c.attempt-ended.ensures in
    let full = full-attempt posted w v c.args.call b n j k c.requires.book vis (stepped-answered c.args.call c.requires.stepped) c.requires.filed c.attempt-ended.result c.told_course-course.result c.args.out.now c.told_course-course.new.out left c.told_course-course.ensures in
    subst (λ (x : Standing). IsFullTried x b.stream c.args.call c.told_course-course.result) (sym c.give_journal.ensures) full
