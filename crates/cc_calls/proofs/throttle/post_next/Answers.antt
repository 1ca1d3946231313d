-- The journal with the post may be given: it needs no other turn.
use Rattle.std.proofs.Common.{ap, arith}
use Rattle.cc_writes.proofs.Visiting.{few-left}
use Rattle.cc_calls.proofs.Throttling.{gives-posted, whole-posted}
use Rattle.cc_calls.proofs.throttle.post_next.Goals as goal

pub give_journal-requires-clause-adds : goal.give_journal-requires-clause-adds
give_journal-requires-clause-adds g c =
    (gives-posted g.T.Post.PostRoutine.posted (g.T.Turns.standing c.args.turns.now) (g.T.Turns.standing c.take_journal-journal.new.self)
    c.take_journal-journal.result c.post_in-answer.new.journal c.take_journal-journal.ensures.took c.take_journal-journal.ensures.stands c.post_in-answer.ensures.waiting
    _ (ap (λ h. h.journal) c.requires.can.free) c.post_in-answer.ensures.left).adds

pub give_journal-requires-clause-stands : goal.give_journal-requires-clause-stands
give_journal-requires-clause-stands g c =
    (gives-posted g.T.Post.PostRoutine.posted (g.T.Turns.standing c.args.turns.now) (g.T.Turns.standing c.take_journal-journal.new.self)
    c.take_journal-journal.result c.post_in-answer.new.journal c.take_journal-journal.ensures.took c.take_journal-journal.ensures.stands c.post_in-answer.ensures.waiting
    _ (ap (λ h. h.journal) c.requires.can.free) c.post_in-answer.ensures.left).journal

pub give_journal-requires-clause-few : goal.give_journal-requires-clause-few
give_journal-requires-clause-few g c =
    few-left (g.T.Turns.standing c.args.turns.now).in_flight
    (gives-posted g.T.Post.PostRoutine.posted (g.T.Turns.standing c.args.turns.now) (g.T.Turns.standing c.take_journal-journal.new.self)
    c.take_journal-journal.result c.post_in-answer.new.journal c.take_journal-journal.ensures.took c.take_journal-journal.ensures.stands c.post_in-answer.ensures.waiting
    _ (ap (λ h. h.journal) c.requires.can.free) c.post_in-answer.ensures.left).went
    (omega (arith, c.requires.can.none))

pub returns : goal.returns
returns g c = record {
  ends =
      whole-posted g.T.Post.PostRoutine.posted (g.T.Turns.standing c.args.turns.now) (g.T.Turns.standing c.take_journal-journal.new.self)
      c.take_journal-journal.result c.post_in-answer.new.journal c.take_journal-journal.ensures.took c.take_journal-journal.ensures.stands c.post_in-answer.ensures.waiting
      _ (ap (λ h. h.journal) c.requires.can.free) c.post_in-answer.ensures.left
      (g.T.Turns.standing c.give_journal.new.self) c.give_journal.ensures;
  posted = c.post_in-answer.ensures.posted;
}
