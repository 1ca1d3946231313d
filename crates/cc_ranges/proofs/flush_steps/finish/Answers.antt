-- With a place reserved the flush may finish as before; what the end leaves is what finishing leaves.
use Rattle.std.proofs.Common.{sym, subst}
use Rattle.cc_journal.specs.Journal.{JournalState}
use Rattle.cc_ranges.specs.FlushSteps.{FlushMayFinish, FlushHasEnded, without_one}
use Rattle.cc_ranges.proofs.FlushStepping.{finish-left, finish-again}
use Rattle.cc_ranges.proofs.flush_steps.finish.Goals as goal

pub end-requires-clause-may : goal.end-requires-clause-may
end-requires-clause-may g c =
    let u = c.requires.may.0 in (
      u,
      subst (λ (j : JournalState g.row.Q.Denot). FlushMayFinish u c.args.pass c.args.file c.args.span.now c.args.book.now (without_one j)) (sym c.in-Ok.ensures.reserved)
          (finish-again u c.args.pass c.args.file c.args.span.now c.args.book.now c.args.book.now c.args.journal.now c.args.journal.now c.requires.may.1),
    )

pub returns-in-Ok : goal.returns-in-Ok
returns-in-Ok g c u may =
    let reserved = c.in-Ok.ensures.reserved in
    finish-left u c.args.pass c.args.file c.args.span.now c.args.book.now c.end.new.book c.args.journal.now c.end.new.journal c.end.result
    (subst (λ (j : JournalState g.row.Q.Denot). FlushHasEnded u c.args.pass c.args.file c.args.span.now c.end.result c.args.book.now c.end.new.book j c.end.new.journal) reserved
    (c.end.ensures u (subst (λ (j : JournalState g.row.Q.Denot). FlushMayFinish u c.args.pass c.args.file c.args.span.now c.args.book.now (without_one j)) (sym reserved)
    (finish-again u c.args.pass c.args.file c.args.span.now c.args.book.now c.end.new.book c.args.journal.now c.end.new.journal may))))
