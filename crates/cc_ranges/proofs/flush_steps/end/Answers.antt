-- The refusal is the definitions' own, or the flush may be done by its sync; without memory the place comes back.
use Rattle.std.specs.Prelude.{◌≡◌, ℕ, ◌-◌, ◌≤◌}
use Rattle.std.proofs.Common.{ap, sym, ◌∙◌, subst}
use Rattle.cc_entry.specs.declared.call.Call.TheVariants as call
use Rattle.cc_entry.specs.declared.reply.Reply.TheVariants as reply
use Rattle.cc_journal.specs.Journal.{JournalState}
use Rattle.cc_step.specs.Step.{AttemptDone, AttemptRefused}
use Rattle.cc_step.proofs.Attempts.{forgoing}
use Rattle.cc_ranges.specs.FlushSteps.{without_one}
use Rattle.cc_ranges.proofs.FlushStepping.{may-fail, may-do, refused-here, refused-within, done-here, owed-within}
use Rattle.cc_ranges.proofs.flush_steps.end.Goals as goal

pub fail-requires-clause-may : goal.fail-requires-clause-may
fail-requires-clause-may g c =
    let u = c.requires.may.0 in
    let may = c.requires.may.1.may in
    may-fail u c.args.pass c.args.file c.args.span.now c.args.book.now c.args.journal.now may c.requires.reserved c.in-Ok-Some.error
    (sym (c.in-Ok-Some.ensures u (u.opening c.args.book.now.stream) may.stand.logs_are may.stand.stands) ∙ c.in-Ok-Some.field-0-is)

pub done-requires-clause-may : goal.done-requires-clause-may
done-requires-clause-may g c =
    let u = c.requires.may.0 in
    let may = c.requires.may.1.may in (
      u,
      may-do u c.args.pass c.args.file c.args.span.now c.args.book.now c.args.journal.now may c.requires.reserved
          (sym (c.in-Ok-None.ensures u (u.opening c.args.book.now.stream) may.stand.logs_are may.stand.stands) ∙ c.in-Ok-None.field-0-is)
          c.requires.may.1.flushed,
    )

pub release-requires : goal.release-requires
release-requires g c =
    let u = c.requires.may.0 in
    subst (λ (n : ℕ). n ≤ c.fail.new.journal.reserved) (sym c.owed_end-owed.ensures)
    (refused-within u c.args.pass c.args.file c.args.span.now c.args.book.now c.args.journal.now c.requires.may.1.may c.requires.reserved c.in-Ok-Some.error c.fail.new.journal
    c.fail.ensures.placed)

pub returns-in-Ok-Some : goal.returns-in-Ok-Some
returns-in-Ok-Some g c u may =
    let given : c.release.new.self ≡ forgoing c.args.journal.now c.args.pass c.fail.new.journal =
    c.release.ensures
    ∙ ap (λ (n : ℕ). record c.fail.new.journal { reserved = c.fail.new.journal.reserved - n }) c.owed_end-owed.ensures in
    subst (λ (k : JournalState g.row.Q.Denot). AttemptRefused u c.args.pass (call.Flush c.args.file c.args.span.now) c.in-Ok-Some.error c.args.book.now c.fail.new.self (without_one c.args.journal.now) k) (sym given)
    (refused-here u c.args.pass c.args.file c.args.span.now c.args.book.now c.args.journal.now may.may c.requires.reserved c.in-Ok-Some.error c.fail.new.self c.fail.new.journal
    (sym (c.in-Ok-Some.ensures u (u.opening c.args.book.now.stream) may.may.stand.logs_are may.may.stand.stands) ∙ c.in-Ok-Some.field-0-is)
    c.fail.ensures.placed c.fail.ensures.stands c.fail.ensures.same)

pub release-requires-in-Ok : goal.release-requires-in-Ok
release-requires-in-Ok g c =
    let u = c.requires.may.0 in
    let may = c.requires.may.1 in
    let admitted = sym (c.in-Ok-None.ensures u (u.opening c.args.book.now.stream) may.may.stand.logs_are may.may.stand.stands) ∙ c.in-Ok-None.field-0-is in
    subst (λ (n : ℕ). n ≤ c.done.new.journal.reserved) (sym c.owed_end-owed-in-Ok-None.ensures)
    (owed-within u c.args.pass c.args.file c.args.span.now c.args.book.now c.args.journal.now may.may c.requires.reserved admitted may.flushed c.done.new.journal c.in-Ok.ensures.placed)

pub returns-in-Ok : goal.returns-in-Ok
returns-in-Ok g c u may =
    let admitted = sym (c.in-Ok-None.ensures u (u.opening c.args.book.now.stream) may.may.stand.logs_are may.may.stand.stands) ∙ c.in-Ok-None.field-0-is in
    let given : c.release-in-Ok.new.self ≡ forgoing c.args.journal.now c.args.pass c.done.new.journal =
    c.release-in-Ok.ensures
    ∙ ap (λ (n : ℕ). record c.done.new.journal { reserved = c.done.new.journal.reserved - n }) c.owed_end-owed-in-Ok-None.ensures in
    subst (λ (k : JournalState g.row.Q.Denot). AttemptDone u c.args.pass (call.Flush c.args.file c.args.span.now) reply.Unit c.args.book.now c.done.new.self (without_one c.args.journal.now) k) (sym given)
    (done-here u c.args.pass c.args.file c.args.span.now c.args.book.now c.args.journal.now may.may c.requires.reserved admitted may.flushed c.done.new.self c.done.new.journal
    c.in-Ok.ensures.placed
    (c.in-Ok.ensures.stands u (may-do u c.args.pass c.args.file c.args.span.now c.args.book.now c.args.journal.now may.may c.requires.reserved admitted may.flushed))
    c.in-Ok.ensures.stream)
