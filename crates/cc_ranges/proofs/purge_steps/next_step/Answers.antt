-- With a place reserved the purge may step as before; what going on leaves is what the next step leaves.
use Rattle.std.proofs.Common.{sym, subst}
use Rattle.cc_entry.specs.declared.call.Call.TheVariants as call
use Rattle.cc_step.specs.Fill.{MayFill}
use Rattle.cc_journal.specs.Journal.{JournalState}
use Rattle.cc_ranges.specs.FlushSteps.{without_one}
use Rattle.cc_ranges.specs.PurgeSteps.{PurgeGoneOn}
use Rattle.cc_ranges.proofs.PurgeStepping.{may-again, next-left}
use Rattle.cc_ranges.proofs.purge_steps.next_step.Goals as goal

pub go_on-requires-clause-may : goal.go_on-requires-clause-may
go_on-requires-clause-may g c =
    let u = c.requires.may.0 in (
      u,
      subst (λ (j : JournalState g.row.Q.Denot). MayFill u c.args.pass (call.Purge c.args.file c.args.span.now) c.args.book.now (without_one j)) (sym c.in-Ok.ensures.reserved)
          (may-again u c.args.pass c.args.file c.args.span.now c.args.book.now c.args.book.now c.args.journal.now c.args.journal.now c.requires.may.1),
    )

pub returns-in-Ok-clause-left : goal.returns-in-Ok-clause-left
returns-in-Ok-clause-left g c u may =
    next-left u c.args.pass c.args.file c.args.span.now c.args.book.now c.go_on.new.book c.args.journal.now c.go_on.new.journal c.args.from c.go_on.result
    (subst (λ (j : JournalState g.row.Q.Denot). PurgeGoneOn u c.args.pass c.args.file c.args.span.now c.args.from c.go_on.result c.args.book.now c.go_on.new.book j c.go_on.new.journal) c.in-Ok.ensures.reserved
    (c.go_on.ensures.left u (subst (λ (j : JournalState g.row.Q.Denot). MayFill u c.args.pass (call.Purge c.args.file c.args.span.now) c.args.book.now (without_one j)) (sym c.in-Ok.ensures.reserved)
    (may-again u c.args.pass c.args.file c.args.span.now c.args.book.now c.args.book.now c.args.journal.now c.args.journal.now may))))
