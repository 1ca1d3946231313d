-- The journal with the entry may be given: there is no turn of the stream that it needs.
use Rattle.std.proofs.Common.{arith}
use Rattle.cc_writes.proofs.Visiting.{few-left}
use Rattle.cc_calls.proofs.Streamless.{journal-owes}
use Rattle.cc_async.proofs.Refused.{gives-refused, whole-refused}
use Rattle.cc_async.proofs.copies.refuse_read.Goals as goal

pub refuse_in-error-requires-clause-owed : goal.refuse_in-error-requires-clause-owed
refuse_in-error-requires-clause-owed g c =
    journal-owes g.T.Post.PostRoutine.posted (g.T.Turns.standing c.take_journal-journal.new.self) c.take_journal-journal.result c.take_journal-journal.ensures.stands

pub give_journal-requires-clause-adds : goal.give_journal-requires-clause-adds
give_journal-requires-clause-adds g c =
    (gives-refused g.T.Post.PostRoutine.posted (g.T.Turns.standing c.args.turns.now) (g.T.Turns.standing c.take_journal-journal.new.self) c.args.read
    c.take_journal-journal.result c.refuse_in-error.new.journal c.me-pass.result c.requires.can c.requires.unknown c.take_journal-journal.ensures.took
    c.take_journal-journal.ensures.stands c.me-pass.ensures c.refuse_in-error.result c.refuse_in-error.ensures).adds

pub give_journal-requires-clause-stands : goal.give_journal-requires-clause-stands
give_journal-requires-clause-stands g c =
    (gives-refused g.T.Post.PostRoutine.posted (g.T.Turns.standing c.args.turns.now) (g.T.Turns.standing c.take_journal-journal.new.self) c.args.read
    c.take_journal-journal.result c.refuse_in-error.new.journal c.me-pass.result c.requires.can c.requires.unknown c.take_journal-journal.ensures.took
    c.take_journal-journal.ensures.stands c.me-pass.ensures c.refuse_in-error.result c.refuse_in-error.ensures).journal

pub give_journal-requires-clause-few : goal.give_journal-requires-clause-few
give_journal-requires-clause-few g c =
    few-left (g.T.Turns.standing c.args.turns.now).in_flight
    (gives-refused g.T.Post.PostRoutine.posted (g.T.Turns.standing c.args.turns.now) (g.T.Turns.standing c.take_journal-journal.new.self) c.args.read
    c.take_journal-journal.result c.refuse_in-error.new.journal c.me-pass.result c.requires.can c.requires.unknown c.take_journal-journal.ensures.took
    c.take_journal-journal.ensures.stands c.me-pass.ensures c.refuse_in-error.result c.refuse_in-error.ensures).went
    (omega (arith, c.requires.can.none))

pub returns : goal.returns
returns g c = record {
  left =
      whole-refused g.T.Post.PostRoutine.posted (g.T.Turns.standing c.args.turns.now) (g.T.Turns.standing c.take_journal-journal.new.self) c.args.read
      c.take_journal-journal.result c.refuse_in-error.new.journal c.me-pass.result c.requires.can c.requires.unknown c.take_journal-journal.ensures.took
      c.take_journal-journal.ensures.stands c.me-pass.ensures c.refuse_in-error.result c.refuse_in-error.ensures
      (g.T.Turns.standing c.give_journal.new.self) c.give_journal.ensures;
}
