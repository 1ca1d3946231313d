-- One visit: the call may go on from the journal that was taken; the page that it asks for has its place reserved.
use Rattle.std.proofs.Common.{sym, subst}
use Rattle.cc_step.proofs.Failing.{stepped-answered}
use Rattle.cc_turns.specs.Standing.{Standing}
use Rattle.cc_turns.specs.Takes.{without_journal}
use Rattle.cc_writes.specs.Hands.{HasBook, IsAtRest, SameDisk}
use Rattle.cc_writes.specs.Visits.{CallStepLeft, CallStepPlaced, CallStepWent, IsFullCallStep}
use Rattle.cc_writes.proofs.Resting.{filed-now, rest-went}
use Rattle.cc_writes.proofs.VisitStepping.{fill-as, stepped, fits-next, flight_after, few-after, visited-next, disk-next, went-next, left-next, full-next, placed-next}
use Rattle.cc_writes.proofs.Visiting.{few-left, visiting}
use Rattle.cc_writes.proofs.visits.next_call_step.Goals as goal

pub next-ended-requires-clause-may : goal.next-ended-requires-clause-may
next-ended-requires-clause-may g c =
    let w = g.T.Turns.standing c.args.turns.now in
    let v = g.T.Turns.standing c.take_journal-journal.new.self in
    let posted = g.T.Post.PostRoutine.posted in
    let b = c.args.book.now in
    let j = c.take_journal-journal.result in
    let vis = visiting posted w v b.stream b j c.requires.book c.take_journal-journal.ensures.took c.take_journal-journal.ensures.stands in
    (w.setup, fill-as posted w v c.args.call b b j j c.requires.book vis (stepped-answered c.args.call c.requires.stepped) (filed-now w b.stream c.args.call c.requires.filed) c.requires.rest c.me-pass.result c.me-pass.ensures)

pub told_course-course-requires : goal.told_course-course-requires
told_course-course-requires g c =
    let w = g.T.Turns.standing c.args.turns.now in
    let v = g.T.Turns.standing c.take_journal-journal.new.self in
    let posted = g.T.Post.PostRoutine.posted in
    let b = c.args.book.now in
    let j = c.take_journal-journal.result in
    let vis = visiting posted w v b.stream b j c.requires.book c.take_journal-journal.ensures.took c.take_journal-journal.ensures.stands in
    let n = c.next-ended.new.book in
    let k = c.next-ended.new.journal in
    let left = stepped posted w v c.args.call b n j k c.requires.book vis (stepped-answered c.args.call c.requires.stepped) (filed-now w b.stream c.args.call c.requires.filed) c.requires.rest c.me-pass.result c.next-ended.result c.me-pass.ensures c.next-ended.ensures in
    record { fits = fits-next posted w v c.args.call b n j k c.requires.book vis (stepped-answered c.args.call c.requires.stepped) (filed-now w b.stream c.args.call c.requires.filed) c.requires.rest c.requires.stepped c.next-ended.result c.args.out.now left c.requires.fits }

pub give_journal-requires-clause-adds : goal.give_journal-requires-clause-adds
give_journal-requires-clause-adds g c =
    let w = g.T.Turns.standing c.args.turns.now in
    let v = g.T.Turns.standing c.take_journal-journal.new.self in
    let posted = g.T.Post.PostRoutine.posted in
    let b = c.args.book.now in
    let j = c.take_journal-journal.result in
    let vis = visiting posted w v b.stream b j c.requires.book c.take_journal-journal.ensures.took c.take_journal-journal.ensures.stands in
    let n = c.next-ended.new.book in
    let k = c.next-ended.new.journal in
    let left = stepped posted w v c.args.call b n j k c.requires.book vis (stepped-answered c.args.call c.requires.stepped) (filed-now w b.stream c.args.call c.requires.filed) c.requires.rest c.me-pass.result c.next-ended.result c.me-pass.ensures c.next-ended.ensures in
    let given = visited-next posted w v c.args.call b n j k c.requires.book vis (stepped-answered c.args.call c.requires.stepped) (filed-now w b.stream c.args.call c.requires.filed) c.requires.rest c.requires.stepped c.next-ended.result left in
    given.adds

pub give_journal-requires-clause-stands : goal.give_journal-requires-clause-stands
give_journal-requires-clause-stands g c =
    let w = g.T.Turns.standing c.args.turns.now in
    let v = g.T.Turns.standing c.take_journal-journal.new.self in
    let posted = g.T.Post.PostRoutine.posted in
    let b = c.args.book.now in
    let j = c.take_journal-journal.result in
    let vis = visiting posted w v b.stream b j c.requires.book c.take_journal-journal.ensures.took c.take_journal-journal.ensures.stands in
    let n = c.next-ended.new.book in
    let k = c.next-ended.new.journal in
    let left = stepped posted w v c.args.call b n j k c.requires.book vis (stepped-answered c.args.call c.requires.stepped) (filed-now w b.stream c.args.call c.requires.filed) c.requires.rest c.me-pass.result c.next-ended.result c.me-pass.ensures c.next-ended.ensures in
    let given = visited-next posted w v c.args.call b n j k c.requires.book vis (stepped-answered c.args.call c.requires.stepped) (filed-now w b.stream c.args.call c.requires.filed) c.requires.rest c.requires.stepped c.next-ended.result left in
    given.journal

pub give_journal-requires-clause-few : goal.give_journal-requires-clause-few
give_journal-requires-clause-few g c =
    let w = g.T.Turns.standing c.args.turns.now in
    let v = g.T.Turns.standing c.take_journal-journal.new.self in
    let posted = g.T.Post.PostRoutine.posted in
    let b = c.args.book.now in
    let j = c.take_journal-journal.result in
    let vis = visiting posted w v b.stream b j c.requires.book c.take_journal-journal.ensures.took c.take_journal-journal.ensures.stands in
    let n = c.next-ended.new.book in
    let k = c.next-ended.new.journal in
    let left = stepped posted w v c.args.call b n j k c.requires.book vis (stepped-answered c.args.call c.requires.stepped) (filed-now w b.stream c.args.call c.requires.filed) c.requires.rest c.me-pass.result c.next-ended.result c.me-pass.ensures c.next-ended.ensures in
    let given = visited-next posted w v c.args.call b n j k c.requires.book vis (stepped-answered c.args.call c.requires.stepped) (filed-now w b.stream c.args.call c.requires.filed) c.requires.rest c.requires.stepped c.next-ended.result left in
    few-left (flight_after posted w v c.args.call b n j k c.requires.book vis (stepped-answered c.args.call c.requires.stepped) (filed-now w b.stream c.args.call c.requires.filed) c.requires.rest c.next-ended.result) given.went
    (few-after posted w v c.args.call b n j k c.requires.book vis (stepped-answered c.args.call c.requires.stepped) (filed-now w b.stream c.args.call c.requires.filed) c.requires.rest c.requires.none c.next-ended.result)

pub returns-clause-book : goal.returns-clause-book
returns-clause-book g c =
    let w = g.T.Turns.standing c.args.turns.now in
    let v = g.T.Turns.standing c.take_journal-journal.new.self in
    let posted = g.T.Post.PostRoutine.posted in
    let b = c.args.book.now in
    let j = c.take_journal-journal.result in
    let vis = visiting posted w v b.stream b j c.requires.book c.take_journal-journal.ensures.took c.take_journal-journal.ensures.stands in
    let n = c.next-ended.new.book in
    let k = c.next-ended.new.journal in
    let left = stepped posted w v c.args.call b n j k c.requires.book vis (stepped-answered c.args.call c.requires.stepped) (filed-now w b.stream c.args.call c.requires.filed) c.requires.rest c.me-pass.result c.next-ended.result c.me-pass.ensures c.next-ended.ensures in
    let given = visited-next posted w v c.args.call b n j k c.requires.book vis (stepped-answered c.args.call c.requires.stepped) (filed-now w b.stream c.args.call c.requires.filed) c.requires.rest c.requires.stepped c.next-ended.result left in
    subst (λ (x : Standing). HasBook x b.stream n) (sym c.give_journal.ensures) given.book

pub returns-clause-rest : goal.returns-clause-rest
returns-clause-rest g c =
    let w = g.T.Turns.standing c.args.turns.now in
    let v = g.T.Turns.standing c.take_journal-journal.new.self in
    let posted = g.T.Post.PostRoutine.posted in
    let b = c.args.book.now in
    let j = c.take_journal-journal.result in
    let vis = visiting posted w v b.stream b j c.requires.book c.take_journal-journal.ensures.took c.take_journal-journal.ensures.stands in
    let n = c.next-ended.new.book in
    let k = c.next-ended.new.journal in
    let left = stepped posted w v c.args.call b n j k c.requires.book vis (stepped-answered c.args.call c.requires.stepped) (filed-now w b.stream c.args.call c.requires.filed) c.requires.rest c.me-pass.result c.next-ended.result c.me-pass.ensures c.next-ended.ensures in
    let given = visited-next posted w v c.args.call b n j k c.requires.book vis (stepped-answered c.args.call c.requires.stepped) (filed-now w b.stream c.args.call c.requires.filed) c.requires.rest c.requires.stepped c.next-ended.result left in
    let disk = disk-next posted w v c.args.call b n j k c.requires.book vis (stepped-answered c.args.call c.requires.stepped) (filed-now w b.stream c.args.call c.requires.filed) c.requires.rest c.next-ended.result left in
    subst (λ (x : Standing). IsAtRest x b.stream) (sym c.give_journal.ensures)
    (rest-went (flight_after posted w v c.args.call b n j k c.requires.book vis (stepped-answered c.args.call c.requires.stepped) (filed-now w b.stream c.args.call c.requires.filed) c.requires.rest c.next-ended.result) b.stream w (without_journal k v) c.requires.rest given.went disk)

pub returns-clause-went : goal.returns-clause-went
returns-clause-went g c =
    let w = g.T.Turns.standing c.args.turns.now in
    let v = g.T.Turns.standing c.take_journal-journal.new.self in
    let posted = g.T.Post.PostRoutine.posted in
    let b = c.args.book.now in
    let j = c.take_journal-journal.result in
    let vis = visiting posted w v b.stream b j c.requires.book c.take_journal-journal.ensures.took c.take_journal-journal.ensures.stands in
    let n = c.next-ended.new.book in
    let k = c.next-ended.new.journal in
    let left = stepped posted w v c.args.call b n j k c.requires.book vis (stepped-answered c.args.call c.requires.stepped) (filed-now w b.stream c.args.call c.requires.filed) c.requires.rest c.me-pass.result c.next-ended.result c.me-pass.ensures c.next-ended.ensures in
    let went = went-next posted w v c.args.call b n j k c.requires.book vis (stepped-answered c.args.call c.requires.stepped) (filed-now w b.stream c.args.call c.requires.filed) c.requires.rest c.requires.stepped c.next-ended.result c.told_course-course.result c.args.out.now c.told_course-course.new.out left c.told_course-course.ensures in
    subst (λ (x : Standing). CallStepWent c.told_course-course.result w x) (sym c.give_journal.ensures) went

pub returns-clause-disk : goal.returns-clause-disk
returns-clause-disk g c =
    let w = g.T.Turns.standing c.args.turns.now in
    let v = g.T.Turns.standing c.take_journal-journal.new.self in
    let posted = g.T.Post.PostRoutine.posted in
    let b = c.args.book.now in
    let j = c.take_journal-journal.result in
    let vis = visiting posted w v b.stream b j c.requires.book c.take_journal-journal.ensures.took c.take_journal-journal.ensures.stands in
    let n = c.next-ended.new.book in
    let k = c.next-ended.new.journal in
    let left = stepped posted w v c.args.call b n j k c.requires.book vis (stepped-answered c.args.call c.requires.stepped) (filed-now w b.stream c.args.call c.requires.filed) c.requires.rest c.me-pass.result c.next-ended.result c.me-pass.ensures c.next-ended.ensures in
    subst (λ (x : Standing). SameDisk w.seen x.seen b.stream) (sym c.give_journal.ensures) (disk-next posted w v c.args.call b n j k c.requires.book vis (stepped-answered c.args.call c.requires.stepped) (filed-now w b.stream c.args.call c.requires.filed) c.requires.rest c.next-ended.result left)

pub returns-clause-left : goal.returns-clause-left
returns-clause-left g c begun way =
    let w = g.T.Turns.standing c.args.turns.now in
    let v = g.T.Turns.standing c.take_journal-journal.new.self in
    let posted = g.T.Post.PostRoutine.posted in
    let b = c.args.book.now in
    let j = c.take_journal-journal.result in
    let vis = visiting posted w v b.stream b j c.requires.book c.take_journal-journal.ensures.took c.take_journal-journal.ensures.stands in
    let n = c.next-ended.new.book in
    let k = c.next-ended.new.journal in
    let left = stepped posted w v c.args.call b n j k c.requires.book vis (stepped-answered c.args.call c.requires.stepped) (filed-now w b.stream c.args.call c.requires.filed) c.requires.rest c.me-pass.result c.next-ended.result c.me-pass.ensures c.next-ended.ensures in
    let ended = left-next posted w v c.args.call b n j k c.requires.book vis (stepped-answered c.args.call c.requires.stepped) (filed-now w b.stream c.args.call c.requires.filed) c.requires.rest
    c.requires.stepped c.requires.brings c.next-ended.result c.told_course-course.result c.args.out.now c.told_course-course.new.out left c.told_course-course.ensures begun way in
    subst (λ (x : Standing). CallStepLeft w.setup w.number b.stream c.args.call c.told_course-course.result begun x.seen c.args.out.now c.told_course-course.new.out) (sym c.give_journal.ensures) ended

pub returns-clause-full : goal.returns-clause-full
returns-clause-full g c =
    let w = g.T.Turns.standing c.args.turns.now in
    let v = g.T.Turns.standing c.take_journal-journal.new.self in
    let posted = g.T.Post.PostRoutine.posted in
    let b = c.args.book.now in
    let j = c.take_journal-journal.result in
    let vis = visiting posted w v b.stream b j c.requires.book c.take_journal-journal.ensures.took c.take_journal-journal.ensures.stands in
    let n = c.next-ended.new.book in
    let k = c.next-ended.new.journal in
    let left = stepped posted w v c.args.call b n j k c.requires.book vis (stepped-answered c.args.call c.requires.stepped) (filed-now w b.stream c.args.call c.requires.filed) c.requires.rest c.me-pass.result c.next-ended.result c.me-pass.ensures c.next-ended.ensures in
    let full = full-next posted w v c.args.call b n j k c.requires.book vis (stepped-answered c.args.call c.requires.stepped) (filed-now w b.stream c.args.call c.requires.filed) c.requires.rest c.requires.stepped c.next-ended.result c.told_course-course.result c.args.out.now c.told_course-course.new.out left c.told_course-course.ensures in
    subst (λ (x : Standing). IsFullCallStep x c.args.call c.told_course-course.result) (sym c.give_journal.ensures) full

pub returns-clause-placed : goal.returns-clause-placed
returns-clause-placed g c =
    let w = g.T.Turns.standing c.args.turns.now in
    let v = g.T.Turns.standing c.take_journal-journal.new.self in
    let posted = g.T.Post.PostRoutine.posted in
    let b = c.args.book.now in
    let j = c.take_journal-journal.result in
    let vis = visiting posted w v b.stream b j c.requires.book c.take_journal-journal.ensures.took c.take_journal-journal.ensures.stands in
    let n = c.next-ended.new.book in
    let k = c.next-ended.new.journal in
    let left = stepped posted w v c.args.call b n j k c.requires.book vis (stepped-answered c.args.call c.requires.stepped) (filed-now w b.stream c.args.call c.requires.filed) c.requires.rest c.me-pass.result c.next-ended.result c.me-pass.ensures c.next-ended.ensures in
    let placed = placed-next posted w v c.args.call b n j k c.requires.book vis (stepped-answered c.args.call c.requires.stepped) (filed-now w b.stream c.args.call c.requires.filed) c.requires.rest c.next-ended.result c.told_course-course.result c.args.out.now c.told_course-course.new.out left c.told_course-course.ensures in
    subst (λ (x : Standing). CallStepPlaced w b.stream c.args.call c.told_course-course.result x.seen) (sym c.give_journal.ensures) placed
