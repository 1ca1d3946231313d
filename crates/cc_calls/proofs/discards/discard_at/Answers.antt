-- One visit: the discard may be decided in the journal that was taken, and what it placed is given with it.
use Rattle.std.proofs.Common.{sym, subst, arith}
use Rattle.cc_effects.specs.Calls.{CallLeft}
use Rattle.cc_turns.specs.Standing.{Standing}
use Rattle.cc_writes.specs.Hands.{HasBook, SameDisk, WentWith}
use Rattle.cc_writes.specs.Ways.{IsFull}
use Rattle.cc_writes.proofs.Visiting.{few-left}
use Rattle.cc_calls.specs.Answers.{outcome_of}
use Rattle.cc_calls.specs.Discards.{DiscardDid}
use Rattle.cc_calls.proofs.DiscardCalls.{gives, may-here}
use Rattle.cc_calls.proofs.discards.discard_at.Goals as goal
use Rattle.cc_entry.specs.declared.call.Call.TheVariants as call

pub discard_in-answer-requires : goal.discard_in-answer-requires
discard_in-answer-requires g c =
    let w = g.T.Turns.standing c.args.turns.now in
    let v = g.T.Turns.standing c.take_journal-journal.new.self in (record {
      may = (
        w.setup,
        may-here g.T.Post.PostRoutine.posted w v c.args.file c.args.span c.args.book.now c.args.book.now c.take_journal-journal.result c.take_journal-journal.result
            c.requires.book c.requires.rest c.take_journal-journal.ensures.took c.take_journal-journal.ensures.stands c.me-pass.result c.me-pass.ensures,
      );
    })

pub give_journal-requires-clause-adds : goal.give_journal-requires-clause-adds
give_journal-requires-clause-adds g c =
    let w = g.T.Turns.standing c.args.turns.now in
    let v = g.T.Turns.standing c.take_journal-journal.new.self in
    let given = gives g.T.Post.PostRoutine.posted w v c.args.file c.args.span c.args.book.now c.discard_in-answer.new.book c.take_journal-journal.result c.discard_in-answer.new.journal
    c.requires.book c.requires.rest c.take_journal-journal.ensures.took c.take_journal-journal.ensures.stands c.me-pass.result c.me-pass.ensures c.discard_in-answer.result
    c.discard_in-answer.ensures.left in
    given.visit.adds

pub give_journal-requires-clause-stands : goal.give_journal-requires-clause-stands
give_journal-requires-clause-stands g c =
    let w = g.T.Turns.standing c.args.turns.now in
    let v = g.T.Turns.standing c.take_journal-journal.new.self in
    let given = gives g.T.Post.PostRoutine.posted w v c.args.file c.args.span c.args.book.now c.discard_in-answer.new.book c.take_journal-journal.result c.discard_in-answer.new.journal
    c.requires.book c.requires.rest c.take_journal-journal.ensures.took c.take_journal-journal.ensures.stands c.me-pass.result c.me-pass.ensures c.discard_in-answer.result
    c.discard_in-answer.ensures.left in
    given.visit.journal

pub give_journal-requires-clause-few : goal.give_journal-requires-clause-few
give_journal-requires-clause-few g c =
    let w = g.T.Turns.standing c.args.turns.now in
    let v = g.T.Turns.standing c.take_journal-journal.new.self in
    let given = gives g.T.Post.PostRoutine.posted w v c.args.file c.args.span c.args.book.now c.discard_in-answer.new.book c.take_journal-journal.result c.discard_in-answer.new.journal
    c.requires.book c.requires.rest c.take_journal-journal.ensures.took c.take_journal-journal.ensures.stands c.me-pass.result c.me-pass.ensures c.discard_in-answer.result
    c.discard_in-answer.ensures.left in
    few-left w.in_flight given.visit.went (omega (arith, c.requires.none))

pub returns-clause-book : goal.returns-clause-book
returns-clause-book g c =
    let w = g.T.Turns.standing c.args.turns.now in
    let v = g.T.Turns.standing c.take_journal-journal.new.self in
    let given = gives g.T.Post.PostRoutine.posted w v c.args.file c.args.span c.args.book.now c.discard_in-answer.new.book c.take_journal-journal.result c.discard_in-answer.new.journal
    c.requires.book c.requires.rest c.take_journal-journal.ensures.took c.take_journal-journal.ensures.stands c.me-pass.result c.me-pass.ensures c.discard_in-answer.result
    c.discard_in-answer.ensures.left in
    subst (λ (x : Standing). HasBook x c.args.file.stream c.discard_in-answer.new.book) (sym c.give_journal.ensures) given.visit.book

pub returns-clause-went : goal.returns-clause-went
returns-clause-went g c =
    let w = g.T.Turns.standing c.args.turns.now in
    let v = g.T.Turns.standing c.take_journal-journal.new.self in
    let given = gives g.T.Post.PostRoutine.posted w v c.args.file c.args.span c.args.book.now c.discard_in-answer.new.book c.take_journal-journal.result c.discard_in-answer.new.journal
    c.requires.book c.requires.rest c.take_journal-journal.ensures.took c.take_journal-journal.ensures.stands c.me-pass.result c.me-pass.ensures c.discard_in-answer.result
    c.discard_in-answer.ensures.left in
    subst (λ (x : Standing). WentWith w.in_flight w x) (sym c.give_journal.ensures) given.visit.went

pub returns-clause-disk : goal.returns-clause-disk
returns-clause-disk g c =
    let w = g.T.Turns.standing c.args.turns.now in
    let v = g.T.Turns.standing c.take_journal-journal.new.self in
    let given = gives g.T.Post.PostRoutine.posted w v c.args.file c.args.span c.args.book.now c.discard_in-answer.new.book c.take_journal-journal.result c.discard_in-answer.new.journal
    c.requires.book c.requires.rest c.take_journal-journal.ensures.took c.take_journal-journal.ensures.stands c.me-pass.result c.me-pass.ensures c.discard_in-answer.result
    c.discard_in-answer.ensures.left in
    subst (λ (x : Standing). SameDisk w.seen x.seen c.args.file.stream) (sym c.give_journal.ensures) given.disk

pub returns-clause-left : goal.returns-clause-left
returns-clause-left g c begun way =
    let w = g.T.Turns.standing c.args.turns.now in
    let v = g.T.Turns.standing c.take_journal-journal.new.self in
    let given = gives g.T.Post.PostRoutine.posted w v c.args.file c.args.span c.args.book.now c.discard_in-answer.new.book c.take_journal-journal.result c.discard_in-answer.new.journal
    c.requires.book c.requires.rest c.take_journal-journal.ensures.took c.take_journal-journal.ensures.stands c.me-pass.result c.me-pass.ensures c.discard_in-answer.result
    c.discard_in-answer.ensures.left in
    subst (λ (x : Standing). CallLeft w.setup w.number (call.Discard c.args.file c.args.span) (outcome_of c.discard_in-answer.result) begun x.seen) (sym c.give_journal.ensures)
    (given.left begun way)

pub returns-clause-did : goal.returns-clause-did
returns-clause-did g c =
    let w = g.T.Turns.standing c.args.turns.now in
    let v = g.T.Turns.standing c.take_journal-journal.new.self in
    let given = gives g.T.Post.PostRoutine.posted w v c.args.file c.args.span c.args.book.now c.discard_in-answer.new.book c.take_journal-journal.result c.discard_in-answer.new.journal
    c.requires.book c.requires.rest c.take_journal-journal.ensures.took c.take_journal-journal.ensures.stands c.me-pass.result c.me-pass.ensures c.discard_in-answer.result
    c.discard_in-answer.ensures.left in
    subst (λ (x : Standing). DiscardDid w.number c.args.file c.args.span c.discard_in-answer.result w.seen x.seen) (sym c.give_journal.ensures) given.what

pub returns-clause-full : goal.returns-clause-full
returns-clause-full g c =
    let w = g.T.Turns.standing c.args.turns.now in
    let v = g.T.Turns.standing c.take_journal-journal.new.self in
    let given = gives g.T.Post.PostRoutine.posted w v c.args.file c.args.span c.args.book.now c.discard_in-answer.new.book c.take_journal-journal.result c.discard_in-answer.new.journal
    c.requires.book c.requires.rest c.take_journal-journal.ensures.took c.take_journal-journal.ensures.stands c.me-pass.result c.me-pass.ensures c.discard_in-answer.result
    c.discard_in-answer.ensures.left in
    subst (λ (x : Standing). IsFull 1 x c.discard_in-answer.result) (sym c.give_journal.ensures) given.room
