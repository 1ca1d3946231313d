-- With a place reserved the write may step as before; what going on leaves is what the next step leaves.
use Rattle.std.proofs.Common.{sym, subst}
use Rattle.cc_entry.specs.declared.call.Call.TheVariants as call
use Rattle.cc_step.specs.Fill.{MayFill}
use Rattle.cc_journal.specs.Journal.{JournalState}
use Rattle.cc_ranges.specs.WriteSteps.{WriteNextLeft}
use Rattle.cc_ranges.proofs.Refusing.{again}
use Rattle.cc_ranges.proofs.write_steps.next_step.Goals as goal
use Rattle.cc_ranges.specs.FlushSteps.{without_one}

pub go_on-requires-clause-may : goal.go_on-requires-clause-may
go_on-requires-clause-may g c =
    let u = c.requires.may.0 in (
      u,
      subst (λ (j : JournalState g.row.Q.Denot). MayFill u c.args.pass (call.NcWrite c.args.file c.args.page) c.args.book.now (without_one j)) (sym c.in-Ok.ensures.reserved)
          (subst (λ (j : JournalState g.row.Q.Denot). MayFill u c.args.pass (call.NcWrite c.args.file c.args.page) c.args.book.now j) (sym (again c.args.journal.now)) c.requires.may.1),
    )

pub returns-in-Ok : goal.returns-in-Ok
returns-in-Ok g c u may =
    subst (λ (j : JournalState g.row.Q.Denot). WriteNextLeft u c.args.pass c.args.file c.args.page c.go_on.result c.args.book.now c.go_on.new.book j c.go_on.new.journal) (again c.args.journal.now)
    (subst (λ (j : JournalState g.row.Q.Denot). WriteNextLeft u c.args.pass c.args.file c.args.page c.go_on.result c.args.book.now c.go_on.new.book (without_one j) c.go_on.new.journal) c.in-Ok.ensures.reserved
    (c.go_on.ensures u (subst (λ (j : JournalState g.row.Q.Denot). MayFill u c.args.pass (call.NcWrite c.args.file c.args.page) c.args.book.now (without_one j)) (sym c.in-Ok.ensures.reserved)
    (subst (λ (j : JournalState g.row.Q.Denot). MayFill u c.args.pass (call.NcWrite c.args.file c.args.page) c.args.book.now j) (sym (again c.args.journal.now)) may))))
