-- With a place reserved the read may step as before; what going on leaves is what the next step leaves.
use Rattle.std.proofs.Common.{sym, subst}
use Rattle.cc_entry.specs.declared.call.Call.TheVariants as call
use Rattle.cc_step.specs.Fill.{MayFill}
use Rattle.cc_journal.specs.Journal.{JournalState}
use Rattle.cc_ranges.specs.ReadSteps.{ReadGoneOn}
use Rattle.cc_ranges.proofs.ReadStepping.{may-again, next-left}
use Rattle.cc_ranges.proofs.read_steps.next_step.Goals as goal
use Rattle.cc_ranges.specs.FlushSteps.{without_one}

pub go_on-requires-clause-may : goal.go_on-requires-clause-may
go_on-requires-clause-may g c =
    let u = c.requires.may.0 in (
      u,
      subst (λ (j : JournalState g.row.Q.Denot). MayFill u c.args.pass (call.NcRead c.args.file c.args.page) c.args.book.now (without_one j)) (sym c.in-Ok.ensures.reserved)
          (may-again u c.args.pass c.args.file c.args.page c.args.written c.args.book.now c.args.book.now c.args.journal.now c.args.journal.now c.requires.may.1),
    )

pub returns-in-Ok : goal.returns-in-Ok
returns-in-Ok g c u may =
    next-left u c.args.pass c.args.file c.args.page c.args.written c.args.book.now c.go_on.new.book c.args.journal.now c.go_on.new.journal c.go_on.result
    (subst (λ (j : JournalState g.row.Q.Denot). ReadGoneOn u c.args.pass c.args.file c.args.page c.args.written c.go_on.result c.args.book.now c.go_on.new.book j c.go_on.new.journal) c.in-Ok.ensures.reserved
    (c.go_on.ensures u (subst (λ (j : JournalState g.row.Q.Denot). MayFill u c.args.pass (call.NcRead c.args.file c.args.page) c.args.book.now (without_one j)) (sym c.in-Ok.ensures.reserved)
    (may-again u c.args.pass c.args.file c.args.page c.args.written c.args.book.now c.args.book.now c.args.journal.now c.args.journal.now may))))
