-- A purge that nothing refuses, and of whose span no page is resident, may be done; else the place comes back.
use Rattle.std.specs.Prelude.{◌≡◌, ℕ, ◌-◌, ◌≤◌}
use Rattle.std.proofs.Common.{ap, sym, ◌∙◌, subst}
use Rattle.cc_entry.specs.declared.call.Call.TheVariants as call
use Rattle.cc_entry.specs.declared.reply.Reply.TheVariants as reply
use Rattle.cc_journal.specs.Journal.{JournalState}
use Rattle.cc_step.specs.Step.{AttemptDone}
use Rattle.cc_step.proofs.Attempts.{forgoing}
use Rattle.cc_ranges.specs.FlushSteps.{without_one}
use Rattle.cc_ranges.proofs.PurgeStepping.{may-do, done-here, owed-within}
use Rattle.cc_ranges.proofs.purge_steps.end.Goals as goal

pub done-requires-clause-may : goal.done-requires-clause-may
done-requires-clause-may g c =
    let u = c.requires.may.0 in
    let m = c.requires.may.1 in
    (u, may-do u c.args.pass c.args.file c.args.span.now c.args.book.now c.args.journal.now m.may c.requires.reserved m.admitted m.out)

pub release-requires : goal.release-requires
release-requires g c =
    let u = c.requires.may.0 in
    let m = c.requires.may.1 in
    subst (λ (n : ℕ). n ≤ c.done.new.journal.reserved) (sym c.owed_end-owed.ensures)
    (owed-within u c.args.pass c.args.file c.args.span.now c.args.book.now c.args.journal.now m.may c.requires.reserved m.admitted m.out c.done.new.journal c.in-Ok.ensures.placed)

pub returns-in-Ok-clause-left : goal.returns-in-Ok-clause-left
returns-in-Ok-clause-left g c u m =
    let given : c.release.new.self ≡ forgoing c.args.journal.now c.args.pass c.done.new.journal =
    c.release.ensures
    ∙ ap (λ (n : ℕ). record c.done.new.journal { reserved = c.done.new.journal.reserved - n }) c.owed_end-owed.ensures in
    subst (λ (k : JournalState g.row.Q.Denot). AttemptDone u c.args.pass (call.Purge c.args.file c.args.span.now) reply.Unit c.args.book.now c.done.new.self (without_one c.args.journal.now) k) (sym given)
    (done-here u c.args.pass c.args.file c.args.span.now c.args.book.now c.args.journal.now m.may c.requires.reserved m.admitted m.out c.done.new.self c.done.new.journal
    c.in-Ok.ensures.placed
    (c.in-Ok.ensures.stands u (may-do u c.args.pass c.args.file c.args.span.now c.args.book.now c.args.journal.now m.may c.requires.reserved m.admitted m.out))
    c.in-Ok.ensures.stream)
