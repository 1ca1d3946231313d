-- One visit: the flush may finish on the journal that was taken, and what it placed is good and is given with it.
use Rattle.std.specs.Prelude.{ℕ, Result}
use Rattle.std.proofs.Common.{sym, subst, arith}
use Rattle.cc_entry.specs.declared.call.Call.TheVariants as call
use Rattle.cc_entry.specs.declared.error.CcError.{CcError}
use Rattle.cc_effects.specs.Calls.{CallLeft}
use Rattle.cc_turns.specs.Standing.{Standing}
use Rattle.cc_turns.specs.Takes.{without_journal}
use Rattle.cc_effects.specs.Begins.{BeginsNone}
use Rattle.cc_writes.specs.Hands.{HasBook, IsAtRest, SameDisk, WentWith}
use Rattle.cc_writes.specs.Ways.{IsFull}
use Rattle.cc_writes.proofs.Resting.{rest-went}
use Rattle.cc_writes.proofs.Visiting.{few-left, visiting}
use Rattle.cc_ranges.specs.Flush.{flush_answer, outcome_of}
use Rattle.cc_ranges.proofs.Finishing.{may-finish, finished-so, left-finish, visited-finish, disk-finish, begun-finish, full-finish}
use Rattle.cc_ranges.proofs.flush_visits.finish_at.Goals as goal

pub finish-ended-requires : goal.finish-ended-requires
finish-ended-requires g c =
    let w = g.T.Turns.standing c.args.turns.now in
    let v = g.T.Turns.standing c.take_journal-journal.new.self in
    let posted = g.T.Post.PostRoutine.posted in
    let file = c.args.file in
    let span = c.args.span.now in
    let b = c.args.book.now in
    let j = c.take_journal-journal.result in
    let here = c.requires.book.stream in
    let has = subst (λ (n : ℕ). HasBook w n b) (sym here) c.requires.book in
    let rest = subst (λ (n : ℕ). IsAtRest w n) (sym here) c.requires.rest in
    let vis = visiting posted w v b.stream b j has c.take_journal-journal.ensures.took c.take_journal-journal.ensures.stands in
    record { may = (w.setup, may-finish posted w v file span b b j j has vis here rest c.requires.synced.0 c.requires.synced.1 c.me-pass.result c.me-pass.ensures) }

pub give_journal-requires-clause-adds : goal.give_journal-requires-clause-adds
give_journal-requires-clause-adds g c =
    let w = g.T.Turns.standing c.args.turns.now in
    let v = g.T.Turns.standing c.take_journal-journal.new.self in
    let posted = g.T.Post.PostRoutine.posted in
    let file = c.args.file in
    let span = c.args.span.now in
    let b = c.args.book.now in
    let j = c.take_journal-journal.result in
    let here = c.requires.book.stream in
    let has = subst (λ (n : ℕ). HasBook w n b) (sym here) c.requires.book in
    let rest = subst (λ (n : ℕ). IsAtRest w n) (sym here) c.requires.rest in
    let vis = visiting posted w v b.stream b j has c.take_journal-journal.ensures.took c.take_journal-journal.ensures.stands in
    let n = c.finish-ended.new.book in
    let k = c.finish-ended.new.journal in
    let ended = c.finish-ended.result in
    let left = finished-so posted w v file span b n j k has vis here rest c.requires.synced.0 c.requires.synced.1 c.me-pass.result ended c.me-pass.ensures c.finish-ended.ensures in
    let given = visited-finish posted w v file span b n j k has vis here rest ended left in
    given.adds

pub give_journal-requires-clause-stands : goal.give_journal-requires-clause-stands
give_journal-requires-clause-stands g c =
    let w = g.T.Turns.standing c.args.turns.now in
    let v = g.T.Turns.standing c.take_journal-journal.new.self in
    let posted = g.T.Post.PostRoutine.posted in
    let file = c.args.file in
    let span = c.args.span.now in
    let b = c.args.book.now in
    let j = c.take_journal-journal.result in
    let here = c.requires.book.stream in
    let has = subst (λ (n : ℕ). HasBook w n b) (sym here) c.requires.book in
    let rest = subst (λ (n : ℕ). IsAtRest w n) (sym here) c.requires.rest in
    let vis = visiting posted w v b.stream b j has c.take_journal-journal.ensures.took c.take_journal-journal.ensures.stands in
    let n = c.finish-ended.new.book in
    let k = c.finish-ended.new.journal in
    let ended = c.finish-ended.result in
    let left = finished-so posted w v file span b n j k has vis here rest c.requires.synced.0 c.requires.synced.1 c.me-pass.result ended c.me-pass.ensures c.finish-ended.ensures in
    let given = visited-finish posted w v file span b n j k has vis here rest ended left in
    given.journal

pub give_journal-requires-clause-few : goal.give_journal-requires-clause-few
give_journal-requires-clause-few g c =
    let w = g.T.Turns.standing c.args.turns.now in
    let v = g.T.Turns.standing c.take_journal-journal.new.self in
    let posted = g.T.Post.PostRoutine.posted in
    let file = c.args.file in
    let span = c.args.span.now in
    let b = c.args.book.now in
    let j = c.take_journal-journal.result in
    let here = c.requires.book.stream in
    let has = subst (λ (n : ℕ). HasBook w n b) (sym here) c.requires.book in
    let rest = subst (λ (n : ℕ). IsAtRest w n) (sym here) c.requires.rest in
    let vis = visiting posted w v b.stream b j has c.take_journal-journal.ensures.took c.take_journal-journal.ensures.stands in
    let n = c.finish-ended.new.book in
    let k = c.finish-ended.new.journal in
    let ended = c.finish-ended.result in
    let left = finished-so posted w v file span b n j k has vis here rest c.requires.synced.0 c.requires.synced.1 c.me-pass.result ended c.me-pass.ensures c.finish-ended.ensures in
    let given = visited-finish posted w v file span b n j k has vis here rest ended left in
    few-left w.in_flight given.went (omega (arith, c.requires.none))

pub returns-clause-book : goal.returns-clause-book
returns-clause-book g c =
    let w = g.T.Turns.standing c.args.turns.now in
    let v = g.T.Turns.standing c.take_journal-journal.new.self in
    let posted = g.T.Post.PostRoutine.posted in
    let file = c.args.file in
    let span = c.args.span.now in
    let b = c.args.book.now in
    let j = c.take_journal-journal.result in
    let here = c.requires.book.stream in
    let has = subst (λ (n : ℕ). HasBook w n b) (sym here) c.requires.book in
    let rest = subst (λ (n : ℕ). IsAtRest w n) (sym here) c.requires.rest in
    let vis = visiting posted w v b.stream b j has c.take_journal-journal.ensures.took c.take_journal-journal.ensures.stands in
    let n = c.finish-ended.new.book in
    let k = c.finish-ended.new.journal in
    let ended = c.finish-ended.result in
    let left = finished-so posted w v file span b n j k has vis here rest c.requires.synced.0 c.requires.synced.1 c.me-pass.result ended c.me-pass.ensures c.finish-ended.ensures in
    let given = visited-finish posted w v file span b n j k has vis here rest ended left in
    subst (λ (x : Standing). HasBook x file.stream n) (sym c.give_journal.ensures) (subst (λ (m : ℕ). HasBook (without_journal k v) m n) here given.book)

pub returns-clause-rest : goal.returns-clause-rest
returns-clause-rest g c =
    let w = g.T.Turns.standing c.args.turns.now in
    let v = g.T.Turns.standing c.take_journal-journal.new.self in
    let posted = g.T.Post.PostRoutine.posted in
    let file = c.args.file in
    let span = c.args.span.now in
    let b = c.args.book.now in
    let j = c.take_journal-journal.result in
    let here = c.requires.book.stream in
    let has = subst (λ (n : ℕ). HasBook w n b) (sym here) c.requires.book in
    let rest = subst (λ (n : ℕ). IsAtRest w n) (sym here) c.requires.rest in
    let vis = visiting posted w v b.stream b j has c.take_journal-journal.ensures.took c.take_journal-journal.ensures.stands in
    let n = c.finish-ended.new.book in
    let k = c.finish-ended.new.journal in
    let ended = c.finish-ended.result in
    let left = finished-so posted w v file span b n j k has vis here rest c.requires.synced.0 c.requires.synced.1 c.me-pass.result ended c.me-pass.ensures c.finish-ended.ensures in
    let given = visited-finish posted w v file span b n j k has vis here rest ended left in
    subst (λ (x : Standing). IsAtRest x file.stream) (sym c.give_journal.ensures)
    (subst (λ (m : ℕ). IsAtRest (without_journal k v) m) here
    (rest-went w.in_flight b.stream w (without_journal k v) rest given.went (disk-finish posted w v file span b n j k has vis here rest ended left)))

pub returns-clause-went : goal.returns-clause-went
returns-clause-went g c =
    let w = g.T.Turns.standing c.args.turns.now in
    let v = g.T.Turns.standing c.take_journal-journal.new.self in
    let posted = g.T.Post.PostRoutine.posted in
    let file = c.args.file in
    let span = c.args.span.now in
    let b = c.args.book.now in
    let j = c.take_journal-journal.result in
    let here = c.requires.book.stream in
    let has = subst (λ (n : ℕ). HasBook w n b) (sym here) c.requires.book in
    let rest = subst (λ (n : ℕ). IsAtRest w n) (sym here) c.requires.rest in
    let vis = visiting posted w v b.stream b j has c.take_journal-journal.ensures.took c.take_journal-journal.ensures.stands in
    let n = c.finish-ended.new.book in
    let k = c.finish-ended.new.journal in
    let ended = c.finish-ended.result in
    let left = finished-so posted w v file span b n j k has vis here rest c.requires.synced.0 c.requires.synced.1 c.me-pass.result ended c.me-pass.ensures c.finish-ended.ensures in
    let given = visited-finish posted w v file span b n j k has vis here rest ended left in
    subst (λ (x : Standing). WentWith w.in_flight w x) (sym c.give_journal.ensures) given.went

pub returns-clause-disk : goal.returns-clause-disk
returns-clause-disk g c =
    let w = g.T.Turns.standing c.args.turns.now in
    let v = g.T.Turns.standing c.take_journal-journal.new.self in
    let posted = g.T.Post.PostRoutine.posted in
    let file = c.args.file in
    let span = c.args.span.now in
    let b = c.args.book.now in
    let j = c.take_journal-journal.result in
    let here = c.requires.book.stream in
    let has = subst (λ (n : ℕ). HasBook w n b) (sym here) c.requires.book in
    let rest = subst (λ (n : ℕ). IsAtRest w n) (sym here) c.requires.rest in
    let vis = visiting posted w v b.stream b j has c.take_journal-journal.ensures.took c.take_journal-journal.ensures.stands in
    let n = c.finish-ended.new.book in
    let k = c.finish-ended.new.journal in
    let ended = c.finish-ended.result in
    let left = finished-so posted w v file span b n j k has vis here rest c.requires.synced.0 c.requires.synced.1 c.me-pass.result ended c.me-pass.ensures c.finish-ended.ensures in
    subst (λ (x : Standing). SameDisk w.seen x.seen file.stream) (sym c.give_journal.ensures)
    (subst (λ (m : ℕ). SameDisk w.seen k.entries m) here (disk-finish posted w v file span b n j k has vis here rest ended left))

pub returns-clause-begun : goal.returns-clause-begun
returns-clause-begun g c =
    let w = g.T.Turns.standing c.args.turns.now in
    let v = g.T.Turns.standing c.take_journal-journal.new.self in
    let posted = g.T.Post.PostRoutine.posted in
    let file = c.args.file in
    let span = c.args.span.now in
    let b = c.args.book.now in
    let j = c.take_journal-journal.result in
    let here = c.requires.book.stream in
    let has = subst (λ (n : ℕ). HasBook w n b) (sym here) c.requires.book in
    let rest = subst (λ (n : ℕ). IsAtRest w n) (sym here) c.requires.rest in
    let vis = visiting posted w v b.stream b j has c.take_journal-journal.ensures.took c.take_journal-journal.ensures.stands in
    let n = c.finish-ended.new.book in
    let k = c.finish-ended.new.journal in
    let ended = c.finish-ended.result in
    let left = finished-so posted w v file span b n j k has vis here rest c.requires.synced.0 c.requires.synced.1 c.me-pass.result ended c.me-pass.ensures c.finish-ended.ensures in
    subst (λ (x : Standing). BeginsNone w.number w.seen x.seen) (sym c.give_journal.ensures) (begun-finish posted w v file span b n j k has vis here rest ended left)

pub returns-clause-left : goal.returns-clause-left
returns-clause-left g c begun is =
    let w = g.T.Turns.standing c.args.turns.now in
    let v = g.T.Turns.standing c.take_journal-journal.new.self in
    let posted = g.T.Post.PostRoutine.posted in
    let file = c.args.file in
    let span = c.args.span.now in
    let b = c.args.book.now in
    let j = c.take_journal-journal.result in
    let here = c.requires.book.stream in
    let has = subst (λ (n : ℕ). HasBook w n b) (sym here) c.requires.book in
    let rest = subst (λ (n : ℕ). IsAtRest w n) (sym here) c.requires.rest in
    let vis = visiting posted w v b.stream b j has c.take_journal-journal.ensures.took c.take_journal-journal.ensures.stands in
    let n = c.finish-ended.new.book in
    let k = c.finish-ended.new.journal in
    let ended = c.finish-ended.result in
    let left = finished-so posted w v file span b n j k has vis here rest c.requires.synced.0 c.requires.synced.1 c.me-pass.result ended c.me-pass.ensures c.finish-ended.ensures in
    subst (λ (r : Result (Unit {0}) CcError). CallLeft w.setup w.number (call.Flush file span) (outcome_of r) begun (g.T.Turns.standing c.give_journal.new.self).seen) (sym c.answer_of.ensures)
    (subst (λ (x : Standing). CallLeft w.setup w.number (call.Flush file span) (outcome_of (flush_answer ended)) begun x.seen) (sym c.give_journal.ensures)
    (left-finish posted w v file span b n j k has vis here rest begun is ended left))

pub returns-clause-full : goal.returns-clause-full
returns-clause-full g c =
    let w = g.T.Turns.standing c.args.turns.now in
    let v = g.T.Turns.standing c.take_journal-journal.new.self in
    let posted = g.T.Post.PostRoutine.posted in
    let file = c.args.file in
    let span = c.args.span.now in
    let b = c.args.book.now in
    let j = c.take_journal-journal.result in
    let here = c.requires.book.stream in
    let has = subst (λ (n : ℕ). HasBook w n b) (sym here) c.requires.book in
    let rest = subst (λ (n : ℕ). IsAtRest w n) (sym here) c.requires.rest in
    let vis = visiting posted w v b.stream b j has c.take_journal-journal.ensures.took c.take_journal-journal.ensures.stands in
    let n = c.finish-ended.new.book in
    let k = c.finish-ended.new.journal in
    let ended = c.finish-ended.result in
    let left = finished-so posted w v file span b n j k has vis here rest c.requires.synced.0 c.requires.synced.1 c.me-pass.result ended c.me-pass.ensures c.finish-ended.ensures in
    subst (λ (r : Result (Unit {0}) CcError). IsFull 1 (g.T.Turns.standing c.give_journal.new.self) r) (sym c.answer_of.ensures)
    (subst (λ (x : Standing). IsFull 1 x (flush_answer ended)) (sym c.give_journal.ensures)
    (full-finish posted w v file span b n j k has vis here rest ended left))
