-- One visit: a call whose place or length is out of order may be refused on the journal that was taken, and its entry
-- is given with it.
use Rattle.std.specs.Prelude.{ℕ}
use Rattle.std.proofs.Common.{sym, subst, arith}
use Rattle.cc_effects.specs.Noncached.{MisshapenLeft}
use Rattle.cc_turns.specs.Standing.{Standing}
use Rattle.cc_turns.specs.Takes.{without_journal}
use Rattle.cc_writes.specs.Hands.{HasBook, WentWith}
use Rattle.cc_writes.specs.Ways.{IsFullError}
use Rattle.cc_writes.proofs.Visiting.{few-left, visiting}
use Rattle.cc_ranges.proofs.ShapeVisits.{may-refuse-as, refused-as, visited-refuse, left-refuse, full-refuse}
use Rattle.cc_ranges.proofs.shapes.refuse_at.Goals as goal

pub refuse_on-error-requires-clause-may : goal.refuse_on-error-requires-clause-may
refuse_on-error-requires-clause-may g c =
    let w = g.T.Turns.standing c.args.turns.now in
    let v = g.T.Turns.standing c.take_journal-journal.new.self in
    let posted = g.T.Post.PostRoutine.posted in
    let file = c.args.file in
    let b = c.args.book.now in
    let j = c.take_journal-journal.result in
    let here = c.requires.book.stream in
    let has = subst (λ (n : ℕ). HasBook w n b) (sym here) c.requires.book in
    let vis = visiting posted w v b.stream b j has c.take_journal-journal.ensures.took c.take_journal-journal.ensures.stands in
    let it = c.args.call in
    let shape = c.args.refusal in
    (w.setup, may-refuse-as posted w v file it shape b b j j has vis here c.requires.page c.requires.shape c.me-pass.result c.me-pass.ensures)

pub give_journal-requires-clause-adds : goal.give_journal-requires-clause-adds
give_journal-requires-clause-adds g c =
    let w = g.T.Turns.standing c.args.turns.now in
    let v = g.T.Turns.standing c.take_journal-journal.new.self in
    let posted = g.T.Post.PostRoutine.posted in
    let file = c.args.file in
    let b = c.args.book.now in
    let j = c.take_journal-journal.result in
    let here = c.requires.book.stream in
    let has = subst (λ (n : ℕ). HasBook w n b) (sym here) c.requires.book in
    let vis = visiting posted w v b.stream b j has c.take_journal-journal.ensures.took c.take_journal-journal.ensures.stands in
    let it = c.args.call in
    let shape = c.args.refusal in
    let n = c.refuse_on-error.new.book in
    let k = c.refuse_on-error.new.journal in
    let e = c.refuse_on-error.result in
    let left = refused-as posted w v file it shape b n j k has vis here c.requires.page c.requires.shape c.me-pass.result e c.me-pass.ensures c.refuse_on-error.ensures in
    let given = visited-refuse posted w v file it shape b n j k has vis here c.requires.page c.requires.shape e left in
    given.adds

pub give_journal-requires-clause-stands : goal.give_journal-requires-clause-stands
give_journal-requires-clause-stands g c =
    let w = g.T.Turns.standing c.args.turns.now in
    let v = g.T.Turns.standing c.take_journal-journal.new.self in
    let posted = g.T.Post.PostRoutine.posted in
    let file = c.args.file in
    let b = c.args.book.now in
    let j = c.take_journal-journal.result in
    let here = c.requires.book.stream in
    let has = subst (λ (n : ℕ). HasBook w n b) (sym here) c.requires.book in
    let vis = visiting posted w v b.stream b j has c.take_journal-journal.ensures.took c.take_journal-journal.ensures.stands in
    let it = c.args.call in
    let shape = c.args.refusal in
    let n = c.refuse_on-error.new.book in
    let k = c.refuse_on-error.new.journal in
    let e = c.refuse_on-error.result in
    let left = refused-as posted w v file it shape b n j k has vis here c.requires.page c.requires.shape c.me-pass.result e c.me-pass.ensures c.refuse_on-error.ensures in
    let given = visited-refuse posted w v file it shape b n j k has vis here c.requires.page c.requires.shape e left in
    given.journal

pub give_journal-requires-clause-few : goal.give_journal-requires-clause-few
give_journal-requires-clause-few g c =
    let w = g.T.Turns.standing c.args.turns.now in
    let v = g.T.Turns.standing c.take_journal-journal.new.self in
    let posted = g.T.Post.PostRoutine.posted in
    let file = c.args.file in
    let b = c.args.book.now in
    let j = c.take_journal-journal.result in
    let here = c.requires.book.stream in
    let has = subst (λ (n : ℕ). HasBook w n b) (sym here) c.requires.book in
    let vis = visiting posted w v b.stream b j has c.take_journal-journal.ensures.took c.take_journal-journal.ensures.stands in
    let it = c.args.call in
    let shape = c.args.refusal in
    let n = c.refuse_on-error.new.book in
    let k = c.refuse_on-error.new.journal in
    let e = c.refuse_on-error.result in
    let left = refused-as posted w v file it shape b n j k has vis here c.requires.page c.requires.shape c.me-pass.result e c.me-pass.ensures c.refuse_on-error.ensures in
    let given = visited-refuse posted w v file it shape b n j k has vis here c.requires.page c.requires.shape e left in
    few-left w.in_flight given.went (omega (arith, c.requires.none))

pub returns-clause-book : goal.returns-clause-book
returns-clause-book g c =
    let w = g.T.Turns.standing c.args.turns.now in
    let v = g.T.Turns.standing c.take_journal-journal.new.self in
    let posted = g.T.Post.PostRoutine.posted in
    let file = c.args.file in
    let b = c.args.book.now in
    let j = c.take_journal-journal.result in
    let here = c.requires.book.stream in
    let has = subst (λ (n : ℕ). HasBook w n b) (sym here) c.requires.book in
    let vis = visiting posted w v b.stream b j has c.take_journal-journal.ensures.took c.take_journal-journal.ensures.stands in
    let it = c.args.call in
    let shape = c.args.refusal in
    let n = c.refuse_on-error.new.book in
    let k = c.refuse_on-error.new.journal in
    let e = c.refuse_on-error.result in
    let left = refused-as posted w v file it shape b n j k has vis here c.requires.page c.requires.shape c.me-pass.result e c.me-pass.ensures c.refuse_on-error.ensures in
    let given = visited-refuse posted w v file it shape b n j k has vis here c.requires.page c.requires.shape e left in
    subst (λ (x : Standing). HasBook x file.stream n) (sym c.give_journal.ensures) (subst (λ (m : ℕ). HasBook (without_journal k v) m n) here given.book)

pub returns-clause-went : goal.returns-clause-went
returns-clause-went g c =
    let w = g.T.Turns.standing c.args.turns.now in
    let v = g.T.Turns.standing c.take_journal-journal.new.self in
    let posted = g.T.Post.PostRoutine.posted in
    let file = c.args.file in
    let b = c.args.book.now in
    let j = c.take_journal-journal.result in
    let here = c.requires.book.stream in
    let has = subst (λ (n : ℕ). HasBook w n b) (sym here) c.requires.book in
    let vis = visiting posted w v b.stream b j has c.take_journal-journal.ensures.took c.take_journal-journal.ensures.stands in
    let it = c.args.call in
    let shape = c.args.refusal in
    let n = c.refuse_on-error.new.book in
    let k = c.refuse_on-error.new.journal in
    let e = c.refuse_on-error.result in
    let left = refused-as posted w v file it shape b n j k has vis here c.requires.page c.requires.shape c.me-pass.result e c.me-pass.ensures c.refuse_on-error.ensures in
    let given = visited-refuse posted w v file it shape b n j k has vis here c.requires.page c.requires.shape e left in
    subst (λ (x : Standing). WentWith w.in_flight w x) (sym c.give_journal.ensures) given.went

pub returns-clause-left : goal.returns-clause-left
returns-clause-left g c =
    let w = g.T.Turns.standing c.args.turns.now in
    let v = g.T.Turns.standing c.take_journal-journal.new.self in
    let posted = g.T.Post.PostRoutine.posted in
    let file = c.args.file in
    let b = c.args.book.now in
    let j = c.take_journal-journal.result in
    let here = c.requires.book.stream in
    let has = subst (λ (n : ℕ). HasBook w n b) (sym here) c.requires.book in
    let vis = visiting posted w v b.stream b j has c.take_journal-journal.ensures.took c.take_journal-journal.ensures.stands in
    let it = c.args.call in
    let shape = c.args.refusal in
    let n = c.refuse_on-error.new.book in
    let k = c.refuse_on-error.new.journal in
    let e = c.refuse_on-error.result in
    let left = refused-as posted w v file it shape b n j k has vis here c.requires.page c.requires.shape c.me-pass.result e c.me-pass.ensures c.refuse_on-error.ensures in
    subst (λ (x : Standing). MisshapenLeft w.number file it shape e w.seen x.seen) (sym c.give_journal.ensures) (left-refuse posted w v file it shape b n j k has vis here c.requires.page c.requires.shape e left)

pub returns-clause-full : goal.returns-clause-full
returns-clause-full g c =
    let w = g.T.Turns.standing c.args.turns.now in
    let v = g.T.Turns.standing c.take_journal-journal.new.self in
    let posted = g.T.Post.PostRoutine.posted in
    let file = c.args.file in
    let b = c.args.book.now in
    let j = c.take_journal-journal.result in
    let here = c.requires.book.stream in
    let has = subst (λ (n : ℕ). HasBook w n b) (sym here) c.requires.book in
    let vis = visiting posted w v b.stream b j has c.take_journal-journal.ensures.took c.take_journal-journal.ensures.stands in
    let it = c.args.call in
    let shape = c.args.refusal in
    let n = c.refuse_on-error.new.book in
    let k = c.refuse_on-error.new.journal in
    let e = c.refuse_on-error.result in
    let left = refused-as posted w v file it shape b n j k has vis here c.requires.page c.requires.shape c.me-pass.result e c.me-pass.ensures c.refuse_on-error.ensures in
    subst (λ (x : Standing). IsFullError 1 x e) (sym c.give_journal.ensures) (full-refuse posted w v file it shape b n j k has vis here c.requires.page c.requires.shape e left)
