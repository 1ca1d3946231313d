-- One visit: the write may step on the journal that was taken, and what it placed is good and is given with it.
use Rattle.std.specs.Prelude.{ℕ}
use Rattle.std.proofs.Common.{sym, subst, arith}
use Rattle.cc_turns.specs.Standing.{Standing}
use Rattle.cc_turns.specs.Takes.{without_journal}
use Rattle.cc_writes.specs.Hands.{HasBook, IsAtRest, SameDisk, WentWith}
use Rattle.cc_writes.proofs.Resting.{rest-went}
use Rattle.cc_writes.proofs.Visiting.{few-left, visiting}
use Rattle.cc_ranges.specs.WriteVisits.{WriteStepLeft, WriteStepPlaced, WriteStepAsks, IsFullWriteStep, write_step_of}
use Rattle.cc_ranges.specs.declared.write_visits.WriteStep.{WriteStep}
use Rattle.cc_ranges.proofs.WriteNexting.{may-next, gone-on, visited-next, disk-next, left-next, asking, full-next, placed-next}
use Rattle.cc_ranges.proofs.write_visits.next_write_step.Goals as goal

pub next_step-went-requires : goal.next_step-went-requires
next_step-went-requires g c =
    let w = g.T.Turns.standing c.args.turns.now in
    let v = g.T.Turns.standing c.take_journal-journal.new.self in
    let posted = g.T.Post.PostRoutine.posted in
    let file = c.args.file in
    let page = c.args.page in
    let b = c.args.book.now in
    let j = c.take_journal-journal.result in
    let here = c.requires.book.stream in
    let has = subst (λ (n : ℕ). HasBook w n b) (sym here) c.requires.book in
    let rest = subst (λ (n : ℕ). IsAtRest w n) (sym here) c.requires.rest in
    let vis = visiting posted w v b.stream b j has c.take_journal-journal.ensures.took c.take_journal-journal.ensures.stands in
    record { may = (w.setup, may-next posted w v file page b b j j has vis here rest c.me-pass.result c.me-pass.ensures) }

pub give_journal-requires-clause-adds : goal.give_journal-requires-clause-adds
give_journal-requires-clause-adds g c =
    let w = g.T.Turns.standing c.args.turns.now in
    let v = g.T.Turns.standing c.take_journal-journal.new.self in
    let posted = g.T.Post.PostRoutine.posted in
    let file = c.args.file in
    let page = c.args.page in
    let b = c.args.book.now in
    let j = c.take_journal-journal.result in
    let here = c.requires.book.stream in
    let has = subst (λ (n : ℕ). HasBook w n b) (sym here) c.requires.book in
    let rest = subst (λ (n : ℕ). IsAtRest w n) (sym here) c.requires.rest in
    let vis = visiting posted w v b.stream b j has c.take_journal-journal.ensures.took c.take_journal-journal.ensures.stands in
    let n = c.next_step-went.new.book in
    let k = c.next_step-went.new.journal in
    let ended = c.next_step-went.result in
    let left = gone-on posted w v file page b n j k has vis here rest c.me-pass.result ended c.me-pass.ensures c.next_step-went.ensures in
    let given = visited-next posted w v file page b n j k has vis here rest ended left in
    given.adds

pub give_journal-requires-clause-stands : goal.give_journal-requires-clause-stands
give_journal-requires-clause-stands g c =
    let w = g.T.Turns.standing c.args.turns.now in
    let v = g.T.Turns.standing c.take_journal-journal.new.self in
    let posted = g.T.Post.PostRoutine.posted in
    let file = c.args.file in
    let page = c.args.page in
    let b = c.args.book.now in
    let j = c.take_journal-journal.result in
    let here = c.requires.book.stream in
    let has = subst (λ (n : ℕ). HasBook w n b) (sym here) c.requires.book in
    let rest = subst (λ (n : ℕ). IsAtRest w n) (sym here) c.requires.rest in
    let vis = visiting posted w v b.stream b j has c.take_journal-journal.ensures.took c.take_journal-journal.ensures.stands in
    let n = c.next_step-went.new.book in
    let k = c.next_step-went.new.journal in
    let ended = c.next_step-went.result in
    let left = gone-on posted w v file page b n j k has vis here rest c.me-pass.result ended c.me-pass.ensures c.next_step-went.ensures in
    let given = visited-next posted w v file page b n j k has vis here rest ended left in
    given.journal

pub give_journal-requires-clause-few : goal.give_journal-requires-clause-few
give_journal-requires-clause-few g c =
    let w = g.T.Turns.standing c.args.turns.now in
    let v = g.T.Turns.standing c.take_journal-journal.new.self in
    let posted = g.T.Post.PostRoutine.posted in
    let file = c.args.file in
    let page = c.args.page in
    let b = c.args.book.now in
    let j = c.take_journal-journal.result in
    let here = c.requires.book.stream in
    let has = subst (λ (n : ℕ). HasBook w n b) (sym here) c.requires.book in
    let rest = subst (λ (n : ℕ). IsAtRest w n) (sym here) c.requires.rest in
    let vis = visiting posted w v b.stream b j has c.take_journal-journal.ensures.took c.take_journal-journal.ensures.stands in
    let n = c.next_step-went.new.book in
    let k = c.next_step-went.new.journal in
    let ended = c.next_step-went.result in
    let left = gone-on posted w v file page b n j k has vis here rest c.me-pass.result ended c.me-pass.ensures c.next_step-went.ensures in
    let given = visited-next posted w v file page b n j k has vis here rest ended left in
    few-left w.in_flight given.went (omega (arith, c.requires.none))

pub returns-clause-book : goal.returns-clause-book
returns-clause-book g c =
    let w = g.T.Turns.standing c.args.turns.now in
    let v = g.T.Turns.standing c.take_journal-journal.new.self in
    let posted = g.T.Post.PostRoutine.posted in
    let file = c.args.file in
    let page = c.args.page in
    let b = c.args.book.now in
    let j = c.take_journal-journal.result in
    let here = c.requires.book.stream in
    let has = subst (λ (n : ℕ). HasBook w n b) (sym here) c.requires.book in
    let rest = subst (λ (n : ℕ). IsAtRest w n) (sym here) c.requires.rest in
    let vis = visiting posted w v b.stream b j has c.take_journal-journal.ensures.took c.take_journal-journal.ensures.stands in
    let n = c.next_step-went.new.book in
    let k = c.next_step-went.new.journal in
    let ended = c.next_step-went.result in
    let left = gone-on posted w v file page b n j k has vis here rest c.me-pass.result ended c.me-pass.ensures c.next_step-went.ensures in
    let given = visited-next posted w v file page b n j k has vis here rest ended left in
    subst (λ (x : Standing). HasBook x file.stream n) (sym c.give_journal.ensures) (subst (λ (m : ℕ). HasBook (without_journal k v) m n) here given.book)

pub returns-clause-rest : goal.returns-clause-rest
returns-clause-rest g c =
    let w = g.T.Turns.standing c.args.turns.now in
    let v = g.T.Turns.standing c.take_journal-journal.new.self in
    let posted = g.T.Post.PostRoutine.posted in
    let file = c.args.file in
    let page = c.args.page in
    let b = c.args.book.now in
    let j = c.take_journal-journal.result in
    let here = c.requires.book.stream in
    let has = subst (λ (n : ℕ). HasBook w n b) (sym here) c.requires.book in
    let rest = subst (λ (n : ℕ). IsAtRest w n) (sym here) c.requires.rest in
    let vis = visiting posted w v b.stream b j has c.take_journal-journal.ensures.took c.take_journal-journal.ensures.stands in
    let n = c.next_step-went.new.book in
    let k = c.next_step-went.new.journal in
    let ended = c.next_step-went.result in
    let left = gone-on posted w v file page b n j k has vis here rest c.me-pass.result ended c.me-pass.ensures c.next_step-went.ensures in
    let given = visited-next posted w v file page b n j k has vis here rest ended left in
    subst (λ (x : Standing). IsAtRest x file.stream) (sym c.give_journal.ensures)
    (subst (λ (m : ℕ). IsAtRest (without_journal k v) m) here
    (rest-went w.in_flight b.stream w (without_journal k v) rest given.went
    (disk-next posted w v file page b n j k has vis here rest ended left)))

pub returns-clause-went : goal.returns-clause-went
returns-clause-went g c =
    let w = g.T.Turns.standing c.args.turns.now in
    let v = g.T.Turns.standing c.take_journal-journal.new.self in
    let posted = g.T.Post.PostRoutine.posted in
    let file = c.args.file in
    let page = c.args.page in
    let b = c.args.book.now in
    let j = c.take_journal-journal.result in
    let here = c.requires.book.stream in
    let has = subst (λ (n : ℕ). HasBook w n b) (sym here) c.requires.book in
    let rest = subst (λ (n : ℕ). IsAtRest w n) (sym here) c.requires.rest in
    let vis = visiting posted w v b.stream b j has c.take_journal-journal.ensures.took c.take_journal-journal.ensures.stands in
    let n = c.next_step-went.new.book in
    let k = c.next_step-went.new.journal in
    let ended = c.next_step-went.result in
    let left = gone-on posted w v file page b n j k has vis here rest c.me-pass.result ended c.me-pass.ensures c.next_step-went.ensures in
    let given = visited-next posted w v file page b n j k has vis here rest ended left in
    subst (λ (x : Standing). WentWith w.in_flight w x) (sym c.give_journal.ensures) given.went

pub returns-clause-disk : goal.returns-clause-disk
returns-clause-disk g c =
    let w = g.T.Turns.standing c.args.turns.now in
    let v = g.T.Turns.standing c.take_journal-journal.new.self in
    let posted = g.T.Post.PostRoutine.posted in
    let file = c.args.file in
    let page = c.args.page in
    let b = c.args.book.now in
    let j = c.take_journal-journal.result in
    let here = c.requires.book.stream in
    let has = subst (λ (n : ℕ). HasBook w n b) (sym here) c.requires.book in
    let rest = subst (λ (n : ℕ). IsAtRest w n) (sym here) c.requires.rest in
    let vis = visiting posted w v b.stream b j has c.take_journal-journal.ensures.took c.take_journal-journal.ensures.stands in
    let n = c.next_step-went.new.book in
    let k = c.next_step-went.new.journal in
    let ended = c.next_step-went.result in
    let left = gone-on posted w v file page b n j k has vis here rest c.me-pass.result ended c.me-pass.ensures c.next_step-went.ensures in
    subst (λ (x : Standing). SameDisk w.seen x.seen file.stream) (sym c.give_journal.ensures)
    (subst (λ (m : ℕ). SameDisk w.seen k.entries m) here (disk-next posted w v file page b n j k has vis here rest ended left))

pub returns-clause-left : goal.returns-clause-left
returns-clause-left g c begun is =
    let w = g.T.Turns.standing c.args.turns.now in
    let v = g.T.Turns.standing c.take_journal-journal.new.self in
    let posted = g.T.Post.PostRoutine.posted in
    let file = c.args.file in
    let page = c.args.page in
    let b = c.args.book.now in
    let j = c.take_journal-journal.result in
    let here = c.requires.book.stream in
    let has = subst (λ (n : ℕ). HasBook w n b) (sym here) c.requires.book in
    let rest = subst (λ (n : ℕ). IsAtRest w n) (sym here) c.requires.rest in
    let vis = visiting posted w v b.stream b j has c.take_journal-journal.ensures.took c.take_journal-journal.ensures.stands in
    let n = c.next_step-went.new.book in
    let k = c.next_step-went.new.journal in
    let ended = c.next_step-went.result in
    let left = gone-on posted w v file page b n j k has vis here rest c.me-pass.result ended c.me-pass.ensures c.next_step-went.ensures in
    subst (λ (r : WriteStep). WriteStepLeft w.setup w.number file page r begun (g.T.Turns.standing c.give_journal.new.self).seen) (sym c.step_of.ensures)
    (subst (λ (x : Standing). WriteStepLeft w.setup w.number file page (write_step_of ended) begun x.seen) (sym c.give_journal.ensures)
    (left-next posted w v file page b n j k has vis here rest begun is ended left))

pub returns-clause-asking : goal.returns-clause-asking
returns-clause-asking g c =
    let w = g.T.Turns.standing c.args.turns.now in
    let v = g.T.Turns.standing c.take_journal-journal.new.self in
    let posted = g.T.Post.PostRoutine.posted in
    let file = c.args.file in
    let page = c.args.page in
    let b = c.args.book.now in
    let j = c.take_journal-journal.result in
    let here = c.requires.book.stream in
    let has = subst (λ (n : ℕ). HasBook w n b) (sym here) c.requires.book in
    let rest = subst (λ (n : ℕ). IsAtRest w n) (sym here) c.requires.rest in
    let vis = visiting posted w v b.stream b j has c.take_journal-journal.ensures.took c.take_journal-journal.ensures.stands in
    let n = c.next_step-went.new.book in
    let k = c.next_step-went.new.journal in
    let ended = c.next_step-went.result in
    let left = gone-on posted w v file page b n j k has vis here rest c.me-pass.result ended c.me-pass.ensures c.next_step-went.ensures in
    subst (λ (r : WriteStep). WriteStepAsks w.setup file page r (g.T.Turns.standing c.give_journal.new.self).seen) (sym c.step_of.ensures)
    (subst (λ (x : Standing). WriteStepAsks w.setup file page (write_step_of ended) x.seen) (sym c.give_journal.ensures)
    (asking posted w v file page b n j k has vis here rest ended left))

pub returns-clause-full : goal.returns-clause-full
returns-clause-full g c =
    let w = g.T.Turns.standing c.args.turns.now in
    let v = g.T.Turns.standing c.take_journal-journal.new.self in
    let posted = g.T.Post.PostRoutine.posted in
    let file = c.args.file in
    let page = c.args.page in
    let b = c.args.book.now in
    let j = c.take_journal-journal.result in
    let here = c.requires.book.stream in
    let has = subst (λ (n : ℕ). HasBook w n b) (sym here) c.requires.book in
    let rest = subst (λ (n : ℕ). IsAtRest w n) (sym here) c.requires.rest in
    let vis = visiting posted w v b.stream b j has c.take_journal-journal.ensures.took c.take_journal-journal.ensures.stands in
    let n = c.next_step-went.new.book in
    let k = c.next_step-went.new.journal in
    let ended = c.next_step-went.result in
    let left = gone-on posted w v file page b n j k has vis here rest c.me-pass.result ended c.me-pass.ensures c.next_step-went.ensures in
    subst (λ (r : WriteStep). IsFullWriteStep (g.T.Turns.standing c.give_journal.new.self) r) (sym c.step_of.ensures)
    (subst (λ (x : Standing). IsFullWriteStep x (write_step_of ended)) (sym c.give_journal.ensures)
    (full-next posted w v file page b n j k has vis here rest ended left))

pub returns-clause-placed : goal.returns-clause-placed
returns-clause-placed g c =
    let w = g.T.Turns.standing c.args.turns.now in
    let v = g.T.Turns.standing c.take_journal-journal.new.self in
    let posted = g.T.Post.PostRoutine.posted in
    let file = c.args.file in
    let page = c.args.page in
    let b = c.args.book.now in
    let j = c.take_journal-journal.result in
    let here = c.requires.book.stream in
    let has = subst (λ (n : ℕ). HasBook w n b) (sym here) c.requires.book in
    let rest = subst (λ (n : ℕ). IsAtRest w n) (sym here) c.requires.rest in
    let vis = visiting posted w v b.stream b j has c.take_journal-journal.ensures.took c.take_journal-journal.ensures.stands in
    let n = c.next_step-went.new.book in
    let k = c.next_step-went.new.journal in
    let ended = c.next_step-went.result in
    let left = gone-on posted w v file page b n j k has vis here rest c.me-pass.result ended c.me-pass.ensures c.next_step-went.ensures in
    subst (λ (r : WriteStep). WriteStepPlaced w file page r (g.T.Turns.standing c.give_journal.new.self).seen) (sym c.step_of.ensures)
    (subst (λ (x : Standing). WriteStepPlaced w file page (write_step_of ended) x.seen) (sym c.give_journal.ensures)
    (placed-next posted w v file page b n j k has vis here rest ended left))
