-- The journal with the entry of the table may be given: the call names no stream, so it needs no other turn.
use Rattle.std.specs.Prelude.{refl}
use Rattle.std.proofs.Common.{arith}
use Rattle.cc_entry.specs.declared.call.Call.TheVariants as call
use Rattle.cc_entry.specs.declared.query.Query.TheVariants as query
use Rattle.cc_entry.specs.declared.reply.Reply.TheVariants as reply
use Rattle.cc_writes.proofs.Visiting.{few-left}
use Rattle.cc_calls.specs.Answers.{rows_outcome}
use Rattle.cc_calls.proofs.Streamless.{gives-streamless, journal-owes, whole-streamless}
use Rattle.cc_calls.proofs.queries.dirty_pages.Goals as goal

pub tell_rows-answer-requires-clause-owed : goal.tell_rows-answer-requires-clause-owed
tell_rows-answer-requires-clause-owed g c =
    journal-owes g.T.Post.PostRoutine.posted (g.T.Turns.standing c.take_journal-journal.new.self) c.take_journal-journal.result c.take_journal-journal.ensures.stands

pub give_journal-requires-clause-adds : goal.give_journal-requires-clause-adds
give_journal-requires-clause-adds g c =
    (gives-streamless g.T.Post.PostRoutine.posted (g.T.Turns.standing c.args.turns.now) (g.T.Turns.standing c.take_journal-journal.new.self) (call.Query (query.DirtyPages c.args.handle))
    c.take_journal-journal.result c.tell_rows-answer.new.journal c.me-pass.result c.requires.can c.take_journal-journal.ensures.took
    c.take_journal-journal.ensures.stands refl c.me-pass.ensures rows_outcome c.tell_rows-answer.result c.tell_rows-answer.ensures).adds

pub give_journal-requires-clause-stands : goal.give_journal-requires-clause-stands
give_journal-requires-clause-stands g c =
    (gives-streamless g.T.Post.PostRoutine.posted (g.T.Turns.standing c.args.turns.now) (g.T.Turns.standing c.take_journal-journal.new.self) (call.Query (query.DirtyPages c.args.handle))
    c.take_journal-journal.result c.tell_rows-answer.new.journal c.me-pass.result c.requires.can c.take_journal-journal.ensures.took
    c.take_journal-journal.ensures.stands refl c.me-pass.ensures rows_outcome c.tell_rows-answer.result c.tell_rows-answer.ensures).journal

pub give_journal-requires-clause-few : goal.give_journal-requires-clause-few
give_journal-requires-clause-few g c =
    few-left (g.T.Turns.standing c.args.turns.now).in_flight
    (gives-streamless g.T.Post.PostRoutine.posted (g.T.Turns.standing c.args.turns.now) (g.T.Turns.standing c.take_journal-journal.new.self) (call.Query (query.DirtyPages c.args.handle))
    c.take_journal-journal.result c.tell_rows-answer.new.journal c.me-pass.result c.requires.can c.take_journal-journal.ensures.took
    c.take_journal-journal.ensures.stands refl c.me-pass.ensures rows_outcome c.tell_rows-answer.result c.tell_rows-answer.ensures).went
    (omega (arith, c.requires.can.none))

pub returns : goal.returns
returns g c = record {
  ends =
      whole-streamless g.T.Post.PostRoutine.posted (g.T.Turns.standing c.args.turns.now) (g.T.Turns.standing c.take_journal-journal.new.self) (call.Query (query.DirtyPages c.args.handle))
      c.take_journal-journal.result c.tell_rows-answer.new.journal c.me-pass.result c.requires.can c.take_journal-journal.ensures.took
      c.take_journal-journal.ensures.stands refl c.me-pass.ensures rows_outcome c.tell_rows-answer.result c.tell_rows-answer.ensures
      (λ rows. reply.Rows rows) (λ rows. refl) (λ e. refl) (g.T.Turns.standing c.give_journal.new.self) c.give_journal.ensures;
}
