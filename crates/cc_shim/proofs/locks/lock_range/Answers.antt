-- The journal with the entry may be given: it needs no other turn.
use Rattle.std.proofs.Common.{ap, arith}
use Rattle.cc_writes.proofs.Visiting.{few-left}
use Rattle.cc_shim.proofs.Locking.{gives-lock, whole-lock}
use Rattle.cc_shim.proofs.locks.lock_range.Goals as goal

pub give_journal-requires-clause-adds : goal.give_journal-requires-clause-adds
give_journal-requires-clause-adds g c =
    (gives-lock g.T.Post.PostRoutine.posted (g.T.Turns.standing c.args.turns.now) (g.T.Turns.standing c.take_journal-journal.new.self)
    c.take_journal-journal.result c.lock_in-answer.new.journal c.take_journal-journal.ensures.took c.take_journal-journal.ensures.stands
    (ap (λ h. h.journal) c.requires.can.free) c.me-pass.result c.me-pass.ensures c.args.file c.args.span c.args.exclusive _ c.lock_in-answer.ensures).adds

pub give_journal-requires-clause-stands : goal.give_journal-requires-clause-stands
give_journal-requires-clause-stands g c =
    (gives-lock g.T.Post.PostRoutine.posted (g.T.Turns.standing c.args.turns.now) (g.T.Turns.standing c.take_journal-journal.new.self)
    c.take_journal-journal.result c.lock_in-answer.new.journal c.take_journal-journal.ensures.took c.take_journal-journal.ensures.stands
    (ap (λ h. h.journal) c.requires.can.free) c.me-pass.result c.me-pass.ensures c.args.file c.args.span c.args.exclusive _ c.lock_in-answer.ensures).journal

pub give_journal-requires-clause-few : goal.give_journal-requires-clause-few
give_journal-requires-clause-few g c =
    few-left (g.T.Turns.standing c.args.turns.now).in_flight
    (gives-lock g.T.Post.PostRoutine.posted (g.T.Turns.standing c.args.turns.now) (g.T.Turns.standing c.take_journal-journal.new.self)
    c.take_journal-journal.result c.lock_in-answer.new.journal c.take_journal-journal.ensures.took c.take_journal-journal.ensures.stands
    (ap (λ h. h.journal) c.requires.can.free) c.me-pass.result c.me-pass.ensures c.args.file c.args.span c.args.exclusive _ c.lock_in-answer.ensures).went
    (omega (arith, c.requires.can.none))

pub returns : goal.returns
returns g c = record {
  ends =
      whole-lock g.T.Post.PostRoutine.posted (g.T.Turns.standing c.args.turns.now) (g.T.Turns.standing c.take_journal-journal.new.self)
      c.take_journal-journal.result c.lock_in-answer.new.journal c.take_journal-journal.ensures.took c.take_journal-journal.ensures.stands
      (ap (λ h. h.journal) c.requires.can.free) c.me-pass.result c.me-pass.ensures c.args.file c.args.span c.args.exclusive _ c.lock_in-answer.ensures
      (g.T.Turns.standing c.give_journal.new.self) c.give_journal.ensures;
}
