-- The journal with the entry may be given: it needs no other turn.
use Rattle.std.specs.Prelude.{◌≡◌}
use Rattle.std.proofs.Common.{ap, arith, subst}
use Rattle.cc_entry.specs.Place.{Range}
use Rattle.cc_pieces.specs.Locks.{TestLeft, tested_range}
use Rattle.cc_shim.specs.Ends.{ListEnds}
use Rattle.cc_writes.proofs.OneVisit.{visiting}
use Rattle.cc_writes.proofs.Visiting.{few-left}
use Rattle.cc_shim.proofs.Locking.{gives-test, span-tested, whole-test}
use Rattle.cc_shim.proofs.locks.test_range.Goals as goal

pub test_in-answer-requires : goal.test_in-answer-requires
test_in-answer-requires g c = record {
  good = ((g.T.Turns.standing c.args.turns.now).setup, (visiting g.T.Post.PostRoutine.posted (g.T.Turns.standing c.args.turns.now) (g.T.Turns.standing c.take_journal-journal.new.self) c.take_journal-journal.result c.take_journal-journal.ensures.took c.take_journal-journal.ensures.stands).good);
}

pub give_journal-requires-clause-adds : goal.give_journal-requires-clause-adds
give_journal-requires-clause-adds g c =
    (gives-test g.T.Post.PostRoutine.posted (g.T.Turns.standing c.args.turns.now) (g.T.Turns.standing c.take_journal-journal.new.self)
    c.take_journal-journal.result c.test_in-answer.new.journal c.take_journal-journal.ensures.took c.take_journal-journal.ensures.stands
    (ap (λ h. h.journal) c.requires.can.free) c.me-pass.result c.me-pass.ensures c.args.file _ c.args.write _ c.test_in-answer.ensures).adds

pub give_journal-requires-clause-stands : goal.give_journal-requires-clause-stands
give_journal-requires-clause-stands g c =
    (gives-test g.T.Post.PostRoutine.posted (g.T.Turns.standing c.args.turns.now) (g.T.Turns.standing c.take_journal-journal.new.self)
    c.take_journal-journal.result c.test_in-answer.new.journal c.take_journal-journal.ensures.took c.take_journal-journal.ensures.stands
    (ap (λ h. h.journal) c.requires.can.free) c.me-pass.result c.me-pass.ensures c.args.file _ c.args.write _ c.test_in-answer.ensures).journal

pub give_journal-requires-clause-few : goal.give_journal-requires-clause-few
give_journal-requires-clause-few g c =
    few-left (g.T.Turns.standing c.args.turns.now).in_flight
    (gives-test g.T.Post.PostRoutine.posted (g.T.Turns.standing c.args.turns.now) (g.T.Turns.standing c.take_journal-journal.new.self)
    c.take_journal-journal.result c.test_in-answer.new.journal c.take_journal-journal.ensures.took c.take_journal-journal.ensures.stands
    (ap (λ h. h.journal) c.requires.can.free) c.me-pass.result c.me-pass.ensures c.args.file _ c.args.write _ c.test_in-answer.ensures).went
    (omega (arith, c.requires.can.none))

pub returns : goal.returns
returns g c =
    let w = g.T.Turns.standing c.args.turns.now in
    let z = g.T.Turns.standing c.give_journal.new.self in
    let span = c.unwrap-span.result in
    let same : span ≡ tested_range c.args.at c.args.len =
    span-tested c.args.at c.args.len c.saturating_add.result span (rw c.unwrap-span.ensures at c.new.ensures.start) (rw c.unwrap-span.ensures at c.new.ensures.end) (omega (arith, c.saturating_add.ensures)) in
    record {
      ends =
          subst (λ (r : Range). ListEnds w z (TestLeft w.number c.args.file r c.args.write) c.test_in-answer.result) same
          (whole-test g.T.Post.PostRoutine.posted w (g.T.Turns.standing c.take_journal-journal.new.self)
          c.take_journal-journal.result c.test_in-answer.new.journal c.take_journal-journal.ensures.took c.take_journal-journal.ensures.stands
          (ap (λ h. h.journal) c.requires.can.free) c.me-pass.result c.me-pass.ensures c.args.file span c.args.write _ c.test_in-answer.ensures
          z c.give_journal.ensures c.note_others.ensures.few);
    }
