-- One visit: the read may end on the journal that was taken, with what the disk gave, and its bytes fit what was handed
-- in; what it placed is good and is given with the journal.
use Rattle.std.specs.Prelude.{ℕ}
use Rattle.std.proofs.Common.{sym, subst, arith}
use Rattle.cc_turns.specs.Standing.{Standing}
use Rattle.cc_turns.specs.Takes.{without_journal}
use Rattle.cc_writes.specs.Hands.{HasBook, IsAtRest, SameDisk, WentWith}
use Rattle.cc_writes.specs.Ways.{IsFull}
use Rattle.cc_writes.proofs.Resting.{rest-went}
use Rattle.cc_writes.proofs.Visiting.{few-left, visiting}
use Rattle.cc_ranges.specs.ReadVisits.{ReadEnded}
use Rattle.cc_ranges.proofs.ReadEnding.{place, may-end, ended-as, visited-end, disk-end, fits-end, left-end, full-end}
use Rattle.cc_ranges.proofs.read_visits.land_at.Goals as goal

pub end-ended-requires : goal.end-ended-requires
end-ended-requires g c =
    let w = g.T.Turns.standing c.args.turns.now in
    let v = g.T.Turns.standing c.take_journal-journal.new.self in
    let posted = g.T.Post.PostRoutine.posted in
    let file = c.args.file in
    let b = c.args.book.now in
    let j = c.take_journal-journal.result in
    let here = c.requires.book.stream in
    let has = subst (λ (n : ℕ). HasBook w n b) (sym here) c.requires.book in
    let rest = subst (λ (n : ℕ). IsAtRest w n) (sym here) c.requires.rest in
    let vis = visiting posted w v b.stream b j has c.take_journal-journal.ensures.took c.take_journal-journal.ensures.stands in
    record {
      reserved = place posted w v file c.args.page b b j j has vis here rest c.requires.reserved;
      may = (w.setup, may-end posted w v file c.args.page b b j j has vis here rest c.requires.reserved c.me-pass.result c.args.raw.now c.me-pass.ensures c.requires.read);
    }

pub told_of-told-requires : goal.told_of-told-requires
told_of-told-requires g c =
    let w = g.T.Turns.standing c.args.turns.now in
    let v = g.T.Turns.standing c.take_journal-journal.new.self in
    let posted = g.T.Post.PostRoutine.posted in
    let file = c.args.file in
    let b = c.args.book.now in
    let j = c.take_journal-journal.result in
    let here = c.requires.book.stream in
    let has = subst (λ (n : ℕ). HasBook w n b) (sym here) c.requires.book in
    let rest = subst (λ (n : ℕ). IsAtRest w n) (sym here) c.requires.rest in
    let vis = visiting posted w v b.stream b j has c.take_journal-journal.ensures.took c.take_journal-journal.ensures.stands in
    let n = c.end-ended.new.book in
    let k = c.end-ended.new.journal in
    let ended = c.end-ended.result in
    let left = ended-as posted w v file c.args.page b n j k has vis here rest c.requires.reserved c.me-pass.result c.args.raw.now ended c.me-pass.ensures c.requires.read c.end-ended.ensures in
    record { fits = fits-end posted w v file c.args.page b n j k has vis here rest c.requires.reserved ended c.args.out.now left c.requires.room }

pub give_journal-requires-clause-adds : goal.give_journal-requires-clause-adds
give_journal-requires-clause-adds g c =
    let w = g.T.Turns.standing c.args.turns.now in
    let v = g.T.Turns.standing c.take_journal-journal.new.self in
    let posted = g.T.Post.PostRoutine.posted in
    let file = c.args.file in
    let b = c.args.book.now in
    let j = c.take_journal-journal.result in
    let here = c.requires.book.stream in
    let has = subst (λ (n : ℕ). HasBook w n b) (sym here) c.requires.book in
    let rest = subst (λ (n : ℕ). IsAtRest w n) (sym here) c.requires.rest in
    let vis = visiting posted w v b.stream b j has c.take_journal-journal.ensures.took c.take_journal-journal.ensures.stands in
    let n = c.end-ended.new.book in
    let k = c.end-ended.new.journal in
    let ended = c.end-ended.result in
    let left = ended-as posted w v file c.args.page b n j k has vis here rest c.requires.reserved c.me-pass.result c.args.raw.now ended c.me-pass.ensures c.requires.read c.end-ended.ensures in
    let given = visited-end posted w v file c.args.page b n j k has vis here rest c.requires.reserved ended left in
    given.adds

pub give_journal-requires-clause-stands : goal.give_journal-requires-clause-stands
give_journal-requires-clause-stands g c =
    let w = g.T.Turns.standing c.args.turns.now in
    let v = g.T.Turns.standing c.take_journal-journal.new.self in
    let posted = g.T.Post.PostRoutine.posted in
    let file = c.args.file in
    let b = c.args.book.now in
    let j = c.take_journal-journal.result in
    let here = c.requires.book.stream in
    let has = subst (λ (n : ℕ). HasBook w n b) (sym here) c.requires.book in
    let rest = subst (λ (n : ℕ). IsAtRest w n) (sym here) c.requires.rest in
    let vis = visiting posted w v b.stream b j has c.take_journal-journal.ensures.took c.take_journal-journal.ensures.stands in
    let n = c.end-ended.new.book in
    let k = c.end-ended.new.journal in
    let ended = c.end-ended.result in
    let left = ended-as posted w v file c.args.page b n j k has vis here rest c.requires.reserved c.me-pass.result c.args.raw.now ended c.me-pass.ensures c.requires.read c.end-ended.ensures in
    let given = visited-end posted w v file c.args.page b n j k has vis here rest c.requires.reserved ended left in
    given.journal

pub give_journal-requires-clause-few : goal.give_journal-requires-clause-few
give_journal-requires-clause-few g c =
    let w = g.T.Turns.standing c.args.turns.now in
    let v = g.T.Turns.standing c.take_journal-journal.new.self in
    let posted = g.T.Post.PostRoutine.posted in
    let file = c.args.file in
    let b = c.args.book.now in
    let j = c.take_journal-journal.result in
    let here = c.requires.book.stream in
    let has = subst (λ (n : ℕ). HasBook w n b) (sym here) c.requires.book in
    let rest = subst (λ (n : ℕ). IsAtRest w n) (sym here) c.requires.rest in
    let vis = visiting posted w v b.stream b j has c.take_journal-journal.ensures.took c.take_journal-journal.ensures.stands in
    let n = c.end-ended.new.book in
    let k = c.end-ended.new.journal in
    let ended = c.end-ended.result in
    let left = ended-as posted w v file c.args.page b n j k has vis here rest c.requires.reserved c.me-pass.result c.args.raw.now ended c.me-pass.ensures c.requires.read c.end-ended.ensures in
    let given = visited-end posted w v file c.args.page b n j k has vis here rest c.requires.reserved ended left in
    few-left 0 given.went (omega arith)

pub returns-clause-book : goal.returns-clause-book
returns-clause-book g c =
    let w = g.T.Turns.standing c.args.turns.now in
    let v = g.T.Turns.standing c.take_journal-journal.new.self in
    let posted = g.T.Post.PostRoutine.posted in
    let file = c.args.file in
    let b = c.args.book.now in
    let j = c.take_journal-journal.result in
    let here = c.requires.book.stream in
    let has = subst (λ (n : ℕ). HasBook w n b) (sym here) c.requires.book in
    let rest = subst (λ (n : ℕ). IsAtRest w n) (sym here) c.requires.rest in
    let vis = visiting posted w v b.stream b j has c.take_journal-journal.ensures.took c.take_journal-journal.ensures.stands in
    let n = c.end-ended.new.book in
    let k = c.end-ended.new.journal in
    let ended = c.end-ended.result in
    let left = ended-as posted w v file c.args.page b n j k has vis here rest c.requires.reserved c.me-pass.result c.args.raw.now ended c.me-pass.ensures c.requires.read c.end-ended.ensures in
    let given = visited-end posted w v file c.args.page b n j k has vis here rest c.requires.reserved ended left in
    subst (λ (x : Standing). HasBook x file.stream n) (sym c.give_journal.ensures) (subst (λ (m : ℕ). HasBook (without_journal k v) m n) here given.book)

pub returns-clause-rest : goal.returns-clause-rest
returns-clause-rest g c =
    let w = g.T.Turns.standing c.args.turns.now in
    let v = g.T.Turns.standing c.take_journal-journal.new.self in
    let posted = g.T.Post.PostRoutine.posted in
    let file = c.args.file in
    let b = c.args.book.now in
    let j = c.take_journal-journal.result in
    let here = c.requires.book.stream in
    let has = subst (λ (n : ℕ). HasBook w n b) (sym here) c.requires.book in
    let rest = subst (λ (n : ℕ). IsAtRest w n) (sym here) c.requires.rest in
    let vis = visiting posted w v b.stream b j has c.take_journal-journal.ensures.took c.take_journal-journal.ensures.stands in
    let n = c.end-ended.new.book in
    let k = c.end-ended.new.journal in
    let ended = c.end-ended.result in
    let left = ended-as posted w v file c.args.page b n j k has vis here rest c.requires.reserved c.me-pass.result c.args.raw.now ended c.me-pass.ensures c.requires.read c.end-ended.ensures in
    let given = visited-end posted w v file c.args.page b n j k has vis here rest c.requires.reserved ended left in
    subst (λ (x : Standing). IsAtRest x file.stream) (sym c.give_journal.ensures)
    (subst (λ (m : ℕ). IsAtRest (without_journal k v) m) here
    (rest-went 0 b.stream w (without_journal k v) rest given.went (disk-end posted w v file c.args.page b n j k has vis here rest c.requires.reserved ended left)))

pub returns-clause-went : goal.returns-clause-went
returns-clause-went g c =
    let w = g.T.Turns.standing c.args.turns.now in
    let v = g.T.Turns.standing c.take_journal-journal.new.self in
    let posted = g.T.Post.PostRoutine.posted in
    let file = c.args.file in
    let b = c.args.book.now in
    let j = c.take_journal-journal.result in
    let here = c.requires.book.stream in
    let has = subst (λ (n : ℕ). HasBook w n b) (sym here) c.requires.book in
    let rest = subst (λ (n : ℕ). IsAtRest w n) (sym here) c.requires.rest in
    let vis = visiting posted w v b.stream b j has c.take_journal-journal.ensures.took c.take_journal-journal.ensures.stands in
    let n = c.end-ended.new.book in
    let k = c.end-ended.new.journal in
    let ended = c.end-ended.result in
    let left = ended-as posted w v file c.args.page b n j k has vis here rest c.requires.reserved c.me-pass.result c.args.raw.now ended c.me-pass.ensures c.requires.read c.end-ended.ensures in
    let given = visited-end posted w v file c.args.page b n j k has vis here rest c.requires.reserved ended left in
    subst (λ (x : Standing). WentWith 0 w x) (sym c.give_journal.ensures) given.went

pub returns-clause-disk : goal.returns-clause-disk
returns-clause-disk g c =
    let w = g.T.Turns.standing c.args.turns.now in
    let v = g.T.Turns.standing c.take_journal-journal.new.self in
    let posted = g.T.Post.PostRoutine.posted in
    let file = c.args.file in
    let b = c.args.book.now in
    let j = c.take_journal-journal.result in
    let here = c.requires.book.stream in
    let has = subst (λ (n : ℕ). HasBook w n b) (sym here) c.requires.book in
    let rest = subst (λ (n : ℕ). IsAtRest w n) (sym here) c.requires.rest in
    let vis = visiting posted w v b.stream b j has c.take_journal-journal.ensures.took c.take_journal-journal.ensures.stands in
    let n = c.end-ended.new.book in
    let k = c.end-ended.new.journal in
    let ended = c.end-ended.result in
    let left = ended-as posted w v file c.args.page b n j k has vis here rest c.requires.reserved c.me-pass.result c.args.raw.now ended c.me-pass.ensures c.requires.read c.end-ended.ensures in
    subst (λ (x : Standing). SameDisk w.seen x.seen file.stream) (sym c.give_journal.ensures)
    (subst (λ (m : ℕ). SameDisk w.seen k.entries m) here (disk-end posted w v file c.args.page b n j k has vis here rest c.requires.reserved ended left))

pub returns-clause-left : goal.returns-clause-left
returns-clause-left g c begun is =
    let w = g.T.Turns.standing c.args.turns.now in
    let v = g.T.Turns.standing c.take_journal-journal.new.self in
    let posted = g.T.Post.PostRoutine.posted in
    let file = c.args.file in
    let b = c.args.book.now in
    let j = c.take_journal-journal.result in
    let here = c.requires.book.stream in
    let has = subst (λ (n : ℕ). HasBook w n b) (sym here) c.requires.book in
    let rest = subst (λ (n : ℕ). IsAtRest w n) (sym here) c.requires.rest in
    let vis = visiting posted w v b.stream b j has c.take_journal-journal.ensures.took c.take_journal-journal.ensures.stands in
    let n = c.end-ended.new.book in
    let k = c.end-ended.new.journal in
    let ended = c.end-ended.result in
    let left = ended-as posted w v file c.args.page b n j k has vis here rest c.requires.reserved c.me-pass.result c.args.raw.now ended c.me-pass.ensures c.requires.read c.end-ended.ensures in
    subst (λ (x : Standing). ReadEnded w.setup w.number file c.args.page c.told_of-told.result begun x.seen c.args.out.now c.told_of-told.new.out) (sym c.give_journal.ensures)
    (left-end posted w v file c.args.page b n j k has vis here rest c.requires.reserved begun is ended c.told_of-told.result c.args.out.now c.told_of-told.new.out left c.requires.room c.told_of-told.ensures)

pub returns-clause-full : goal.returns-clause-full
returns-clause-full g c =
    let w = g.T.Turns.standing c.args.turns.now in
    let v = g.T.Turns.standing c.take_journal-journal.new.self in
    let posted = g.T.Post.PostRoutine.posted in
    let file = c.args.file in
    let b = c.args.book.now in
    let j = c.take_journal-journal.result in
    let here = c.requires.book.stream in
    let has = subst (λ (n : ℕ). HasBook w n b) (sym here) c.requires.book in
    let rest = subst (λ (n : ℕ). IsAtRest w n) (sym here) c.requires.rest in
    let vis = visiting posted w v b.stream b j has c.take_journal-journal.ensures.took c.take_journal-journal.ensures.stands in
    let n = c.end-ended.new.book in
    let k = c.end-ended.new.journal in
    let ended = c.end-ended.result in
    let left = ended-as posted w v file c.args.page b n j k has vis here rest c.requires.reserved c.me-pass.result c.args.raw.now ended c.me-pass.ensures c.requires.read c.end-ended.ensures in
    subst (λ (x : Standing). IsFull 1 x c.told_of-told.result) (sym c.give_journal.ensures)
    (full-end posted w v file c.args.page b n j k has vis here rest c.requires.reserved ended c.told_of-told.result c.args.out.now c.told_of-told.new.out left c.told_of-told.ensures)
