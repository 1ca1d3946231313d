-- With a place reserved the discard may be decided as before, and leaves what it leaves of the journal as it was.
use Rattle.std.proofs.Common.{sym, subst}
use Rattle.cc_entry.specs.declared.call.Call.TheVariants as call
use Rattle.cc_journal.specs.Journal.{JournalState}
use Rattle.cc_step.specs.Fill.{MayFill}
use Rattle.cc_ranges.specs.FlushSteps.{without_one}
use Rattle.cc_calls.specs.Discards.{DiscardStepLeft}
use Rattle.cc_calls.proofs.Discarding.{left-again, may-again}
use Rattle.cc_calls.proofs.discards.discard_in.Goals as goal

pub returns-in-Ok : goal.returns-in-Ok
returns-in-Ok g c = record {
  left = λ u may.
      left-again u c.args.pass c.args.file c.args.span c.args.book.now c.decide.new.book c.args.journal.now c.decide.new.journal c.decide.result
      (subst (λ (j : JournalState g.row.Q.Denot). DiscardStepLeft u c.args.pass c.args.file c.args.span c.decide.result c.args.book.now c.decide.new.book (without_one j) c.decide.new.journal) c.in-Ok.ensures.reserved
      (c.decide.ensures.left u (subst (λ (j : JournalState g.row.Q.Denot). MayFill u c.args.pass (call.Discard c.args.file c.args.span) c.args.book.now (without_one j)) (sym c.in-Ok.ensures.reserved)
      (may-again u c.args.pass c.args.file c.args.span c.args.book.now c.args.book.now c.args.journal.now c.args.journal.now may))));
}
