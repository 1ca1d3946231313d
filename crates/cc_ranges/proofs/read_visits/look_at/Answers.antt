-- One visit: the read may step on the journal that was taken, and what it placed is good and is given with it; a place
-- for the reading of the disk stays reserved.
use Rattle.std.specs.Prelude.{ℕ}
use Rattle.std.proofs.Common.{sym, subst}
use Rattle.cc_model.specs.History.{history}
use Rattle.cc_turns.specs.Standing.{Standing}
use Rattle.cc_turns.specs.Takes.{without_journal}
use Rattle.cc_writes.specs.Hands.{HasBook, IsAtRest, SameDisk}
use Rattle.cc_writes.proofs.Resting.{rest-went}
use Rattle.cc_writes.proofs.Visiting.{few-left, visiting}
use Rattle.cc_ranges.specs.ReadVisits.{IsBelow, LookAsks, LookLeft, LookWent, IsFullLook, look_of}
use Rattle.cc_ranges.specs.declared.read_visits.Look.{Look}
use Rattle.cc_ranges.proofs.ReadNexting.{may-next, stepped, flight_after, few-after, visited-next, disk-next, went-next, left-next, asks-next, below-next, full-next}
use Rattle.cc_ranges.proofs.read_visits.look_at.Goals as goal

pub next_step-went-requires : goal.next_step-went-requires
next_step-went-requires g c =
    let w = g.T.Turns.standing c.args.turns.now in
    let v = g.T.Turns.standing c.take_journal-journal.new.self in
    let posted = g.T.Post.PostRoutine.posted in
    let file = c.args.file in
    let b = c.args.book.now in
    let j = c.take_journal-journal.result in
    let here = c.requires.book.stream in
    let has = subst (λ (n : ℕ). HasBook w n b) (sym here) c.requires.book in
    let rest = subst (λ (n : ℕ). IsAtRest w n) (sym here) c.requires.rest in
    let vis = visiting posted w v b.stream b j has c.take_journal-journal.ensures.took c.take_journal-journal.ensures.stands in
    let page = c.args.page in
    let written = c.args.written in
    record { may = (w.setup, may-next posted w v file page written b b j j has vis here rest c.me-pass.result c.me-pass.ensures) }

pub give_journal-requires-clause-adds : goal.give_journal-requires-clause-adds
give_journal-requires-clause-adds g c =
    let w = g.T.Turns.standing c.args.turns.now in
    let v = g.T.Turns.standing c.take_journal-journal.new.self in
    let posted = g.T.Post.PostRoutine.posted in
    let file = c.args.file in
    let b = c.args.book.now in
    let j = c.take_journal-journal.result in
    let here = c.requires.book.stream in
    let has = subst (λ (n : ℕ). HasBook w n b) (sym here) c.requires.book in
    let rest = subst (λ (n : ℕ). IsAtRest w n) (sym here) c.requires.rest in
    let vis = visiting posted w v b.stream b j has c.take_journal-journal.ensures.took c.take_journal-journal.ensures.stands in
    let page = c.args.page in
    let written = c.args.written in
    let n = c.next_step-went.new.book in
    let k = c.next_step-went.new.journal in
    let ended = c.next_step-went.result in
    let left = stepped posted w v file page written b n j k has vis here rest c.me-pass.result ended c.me-pass.ensures c.next_step-went.ensures in
    let given = visited-next posted w v file page written b n j k has vis here rest ended left in
    given.adds

pub give_journal-requires-clause-stands : goal.give_journal-requires-clause-stands
give_journal-requires-clause-stands g c =
    let w = g.T.Turns.standing c.args.turns.now in
    let v = g.T.Turns.standing c.take_journal-journal.new.self in
    let posted = g.T.Post.PostRoutine.posted in
    let file = c.args.file in
    let b = c.args.book.now in
    let j = c.take_journal-journal.result in
    let here = c.requires.book.stream in
    let has = subst (λ (n : ℕ). HasBook w n b) (sym here) c.requires.book in
    let rest = subst (λ (n : ℕ). IsAtRest w n) (sym here) c.requires.rest in
    let vis = visiting posted w v b.stream b j has c.take_journal-journal.ensures.took c.take_journal-journal.ensures.stands in
    let page = c.args.page in
    let written = c.args.written in
    let n = c.next_step-went.new.book in
    let k = c.next_step-went.new.journal in
    let ended = c.next_step-went.result in
    let left = stepped posted w v file page written b n j k has vis here rest c.me-pass.result ended c.me-pass.ensures c.next_step-went.ensures in
    let given = visited-next posted w v file page written b n j k has vis here rest ended left in
    given.journal

pub give_journal-requires-clause-few : goal.give_journal-requires-clause-few
give_journal-requires-clause-few g c =
    let w = g.T.Turns.standing c.args.turns.now in
    let v = g.T.Turns.standing c.take_journal-journal.new.self in
    let posted = g.T.Post.PostRoutine.posted in
    let file = c.args.file in
    let b = c.args.book.now in
    let j = c.take_journal-journal.result in
    let here = c.requires.book.stream in
    let has = subst (λ (n : ℕ). HasBook w n b) (sym here) c.requires.book in
    let rest = subst (λ (n : ℕ). IsAtRest w n) (sym here) c.requires.rest in
    let vis = visiting posted w v b.stream b j has c.take_journal-journal.ensures.took c.take_journal-journal.ensures.stands in
    let page = c.args.page in
    let written = c.args.written in
    let n = c.next_step-went.new.book in
    let k = c.next_step-went.new.journal in
    let ended = c.next_step-went.result in
    let left = stepped posted w v file page written b n j k has vis here rest c.me-pass.result ended c.me-pass.ensures c.next_step-went.ensures in
    let given = visited-next posted w v file page written b n j k has vis here rest ended left in
    few-left (flight_after posted w v file page written b n j k has vis here rest ended) given.went (few-after posted w v file page written b n j k has vis here rest c.requires.none ended)

pub returns-clause-book : goal.returns-clause-book
returns-clause-book g c =
    let w = g.T.Turns.standing c.args.turns.now in
    let v = g.T.Turns.standing c.take_journal-journal.new.self in
    let posted = g.T.Post.PostRoutine.posted in
    let file = c.args.file in
    let b = c.args.book.now in
    let j = c.take_journal-journal.result in
    let here = c.requires.book.stream in
    let has = subst (λ (n : ℕ). HasBook w n b) (sym here) c.requires.book in
    let rest = subst (λ (n : ℕ). IsAtRest w n) (sym here) c.requires.rest in
    let vis = visiting posted w v b.stream b j has c.take_journal-journal.ensures.took c.take_journal-journal.ensures.stands in
    let page = c.args.page in
    let written = c.args.written in
    let n = c.next_step-went.new.book in
    let k = c.next_step-went.new.journal in
    let ended = c.next_step-went.result in
    let left = stepped posted w v file page written b n j k has vis here rest c.me-pass.result ended c.me-pass.ensures c.next_step-went.ensures in
    let given = visited-next posted w v file page written b n j k has vis here rest ended left in
    subst (λ (x : Standing). HasBook x file.stream n) (sym c.give_journal.ensures) (subst (λ (m : ℕ). HasBook (without_journal k v) m n) here given.book)

pub returns-clause-rest : goal.returns-clause-rest
returns-clause-rest g c =
    let w = g.T.Turns.standing c.args.turns.now in
    let v = g.T.Turns.standing c.take_journal-journal.new.self in
    let posted = g.T.Post.PostRoutine.posted in
    let file = c.args.file in
    let b = c.args.book.now in
    let j = c.take_journal-journal.result in
    let here = c.requires.book.stream in
    let has = subst (λ (n : ℕ). HasBook w n b) (sym here) c.requires.book in
    let rest = subst (λ (n : ℕ). IsAtRest w n) (sym here) c.requires.rest in
    let vis = visiting posted w v b.stream b j has c.take_journal-journal.ensures.took c.take_journal-journal.ensures.stands in
    let page = c.args.page in
    let written = c.args.written in
    let n = c.next_step-went.new.book in
    let k = c.next_step-went.new.journal in
    let ended = c.next_step-went.result in
    let left = stepped posted w v file page written b n j k has vis here rest c.me-pass.result ended c.me-pass.ensures c.next_step-went.ensures in
    let given = visited-next posted w v file page written b n j k has vis here rest ended left in
    subst (λ (x : Standing). IsAtRest x file.stream) (sym c.give_journal.ensures)
    (subst (λ (m : ℕ). IsAtRest (without_journal k v) m) here
    (rest-went (flight_after posted w v file page written b n j k has vis here rest ended) b.stream w (without_journal k v) rest given.went (disk-next posted w v file page written b n j k has vis here rest ended left)))

pub returns-clause-went : goal.returns-clause-went
returns-clause-went g c =
    let w = g.T.Turns.standing c.args.turns.now in
    let v = g.T.Turns.standing c.take_journal-journal.new.self in
    let posted = g.T.Post.PostRoutine.posted in
    let file = c.args.file in
    let b = c.args.book.now in
    let j = c.take_journal-journal.result in
    let here = c.requires.book.stream in
    let has = subst (λ (n : ℕ). HasBook w n b) (sym here) c.requires.book in
    let rest = subst (λ (n : ℕ). IsAtRest w n) (sym here) c.requires.rest in
    let vis = visiting posted w v b.stream b j has c.take_journal-journal.ensures.took c.take_journal-journal.ensures.stands in
    let page = c.args.page in
    let written = c.args.written in
    let n = c.next_step-went.new.book in
    let k = c.next_step-went.new.journal in
    let ended = c.next_step-went.result in
    let left = stepped posted w v file page written b n j k has vis here rest c.me-pass.result ended c.me-pass.ensures c.next_step-went.ensures in
    subst (λ (r : Look). LookWent r w (g.T.Turns.standing c.give_journal.new.self)) (sym c.look_of.ensures)
    (subst (λ (x : Standing). LookWent (look_of ended) w x) (sym c.give_journal.ensures) (went-next posted w v file page written b n j k has vis here rest c.requires.none ended left))

pub returns-clause-disk : goal.returns-clause-disk
returns-clause-disk g c =
    let w = g.T.Turns.standing c.args.turns.now in
    let v = g.T.Turns.standing c.take_journal-journal.new.self in
    let posted = g.T.Post.PostRoutine.posted in
    let file = c.args.file in
    let b = c.args.book.now in
    let j = c.take_journal-journal.result in
    let here = c.requires.book.stream in
    let has = subst (λ (n : ℕ). HasBook w n b) (sym here) c.requires.book in
    let rest = subst (λ (n : ℕ). IsAtRest w n) (sym here) c.requires.rest in
    let vis = visiting posted w v b.stream b j has c.take_journal-journal.ensures.took c.take_journal-journal.ensures.stands in
    let page = c.args.page in
    let written = c.args.written in
    let n = c.next_step-went.new.book in
    let k = c.next_step-went.new.journal in
    let ended = c.next_step-went.result in
    let left = stepped posted w v file page written b n j k has vis here rest c.me-pass.result ended c.me-pass.ensures c.next_step-went.ensures in
    subst (λ (x : Standing). SameDisk w.seen x.seen file.stream) (sym c.give_journal.ensures)
    (subst (λ (m : ℕ). SameDisk w.seen k.entries m) here (disk-next posted w v file page written b n j k has vis here rest ended left))

pub returns-clause-left : goal.returns-clause-left
returns-clause-left g c begun is =
    let w = g.T.Turns.standing c.args.turns.now in
    let v = g.T.Turns.standing c.take_journal-journal.new.self in
    let posted = g.T.Post.PostRoutine.posted in
    let file = c.args.file in
    let b = c.args.book.now in
    let j = c.take_journal-journal.result in
    let here = c.requires.book.stream in
    let has = subst (λ (n : ℕ). HasBook w n b) (sym here) c.requires.book in
    let rest = subst (λ (n : ℕ). IsAtRest w n) (sym here) c.requires.rest in
    let vis = visiting posted w v b.stream b j has c.take_journal-journal.ensures.took c.take_journal-journal.ensures.stands in
    let page = c.args.page in
    let written = c.args.written in
    let n = c.next_step-went.new.book in
    let k = c.next_step-went.new.journal in
    let ended = c.next_step-went.result in
    let left = stepped posted w v file page written b n j k has vis here rest c.me-pass.result ended c.me-pass.ensures c.next_step-went.ensures in
    subst (λ (r : Look). LookLeft w.setup w.number file page r begun (g.T.Turns.standing c.give_journal.new.self).seen) (sym c.look_of.ensures)
    (subst (λ (x : Standing). LookLeft w.setup w.number file page (look_of ended) begun x.seen) (sym c.give_journal.ensures) (left-next posted w v file page written b n j k has vis here rest begun is ended left))

pub returns-clause-asks : goal.returns-clause-asks
returns-clause-asks g c =
    let w = g.T.Turns.standing c.args.turns.now in
    let v = g.T.Turns.standing c.take_journal-journal.new.self in
    let posted = g.T.Post.PostRoutine.posted in
    let file = c.args.file in
    let b = c.args.book.now in
    let j = c.take_journal-journal.result in
    let here = c.requires.book.stream in
    let has = subst (λ (n : ℕ). HasBook w n b) (sym here) c.requires.book in
    let rest = subst (λ (n : ℕ). IsAtRest w n) (sym here) c.requires.rest in
    let vis = visiting posted w v b.stream b j has c.take_journal-journal.ensures.took c.take_journal-journal.ensures.stands in
    let page = c.args.page in
    let written = c.args.written in
    let n = c.next_step-went.new.book in
    let k = c.next_step-went.new.journal in
    let ended = c.next_step-went.result in
    let left = stepped posted w v file page written b n j k has vis here rest c.me-pass.result ended c.me-pass.ensures c.next_step-went.ensures in
    subst (λ (r : Look). LookAsks w.setup file page written r (g.T.Turns.standing c.give_journal.new.self).seen) (sym c.look_of.ensures)
    (subst (λ (x : Standing). LookAsks w.setup file page written (look_of ended) x.seen) (sym c.give_journal.ensures) (asks-next posted w v file page written b n j k has vis here rest ended left))

pub returns-clause-below : goal.returns-clause-below
returns-clause-below g c =
    let w = g.T.Turns.standing c.args.turns.now in
    let v = g.T.Turns.standing c.take_journal-journal.new.self in
    let posted = g.T.Post.PostRoutine.posted in
    let file = c.args.file in
    let b = c.args.book.now in
    let j = c.take_journal-journal.result in
    let here = c.requires.book.stream in
    let has = subst (λ (n : ℕ). HasBook w n b) (sym here) c.requires.book in
    let rest = subst (λ (n : ℕ). IsAtRest w n) (sym here) c.requires.rest in
    let vis = visiting posted w v b.stream b j has c.take_journal-journal.ensures.took c.take_journal-journal.ensures.stands in
    let page = c.args.page in
    let written = c.args.written in
    let n = c.next_step-went.new.book in
    let k = c.next_step-went.new.journal in
    let ended = c.next_step-went.result in
    let left = stepped posted w v file page written b n j k has vis here rest c.me-pass.result ended c.me-pass.ensures c.next_step-went.ensures in
    subst (λ (r : Look). IsBelow page r (history w.seen file.stream)) (sym c.look_of.ensures)
    (below-next posted w v file page written b n j k has vis here rest ended left)

pub returns-clause-full : goal.returns-clause-full
returns-clause-full g c =
    let w = g.T.Turns.standing c.args.turns.now in
    let v = g.T.Turns.standing c.take_journal-journal.new.self in
    let posted = g.T.Post.PostRoutine.posted in
    let file = c.args.file in
    let b = c.args.book.now in
    let j = c.take_journal-journal.result in
    let here = c.requires.book.stream in
    let has = subst (λ (n : ℕ). HasBook w n b) (sym here) c.requires.book in
    let rest = subst (λ (n : ℕ). IsAtRest w n) (sym here) c.requires.rest in
    let vis = visiting posted w v b.stream b j has c.take_journal-journal.ensures.took c.take_journal-journal.ensures.stands in
    let page = c.args.page in
    let written = c.args.written in
    let n = c.next_step-went.new.book in
    let k = c.next_step-went.new.journal in
    let ended = c.next_step-went.result in
    let left = stepped posted w v file page written b n j k has vis here rest c.me-pass.result ended c.me-pass.ensures c.next_step-went.ensures in
    subst (λ (r : Look). IsFullLook (g.T.Turns.standing c.give_journal.new.self) r) (sym c.look_of.ensures)
    (subst (λ (x : Standing). IsFullLook x (look_of ended)) (sym c.give_journal.ensures) (full-next posted w v file page written b n j k has vis here rest ended left))
