-- By the refusal: the failed read's entry may stand on the reserved place; a read that nothing refuses is admitted.
use Rattle.std.specs.Prelude.{◌≡◌, ℕ, ◌-◌, ◌≤◌}
use Rattle.std.proofs.Common.{ap, sym, ◌∙◌, subst}
use Rattle.cc_entry.specs.declared.call.Call.TheVariants as call
use Rattle.cc_journal.specs.Journal.{JournalState}
use Rattle.cc_step.specs.Step.{AttemptRefused}
use Rattle.cc_step.proofs.Attempts.{forgoing}
use Rattle.cc_ranges.proofs.ReadStepping.{may-fail, refused-here, forgone-left, gone-on}
use Rattle.cc_ranges.proofs.read_steps.go_on.Goals as goal
use Rattle.cc_ranges.specs.FlushSteps.{without_one}

pub fail-requires-clause-may : goal.fail-requires-clause-may
fail-requires-clause-may g c =
    let u = c.requires.may.0 in
    let fill = c.requires.may.1 in
    may-fail u c.args.pass c.args.file c.args.page c.args.book.now c.args.journal.now fill c.requires.reserved c.in-Ok-Some.error
    (sym (c.in-Ok-Some.ensures u (u.opening c.args.book.now.stream) fill.may.stand.logs_are fill.may.stand.stands) ∙ c.in-Ok-Some.field-0-is)

pub release-requires : goal.release-requires
release-requires g c =
    let u = c.requires.may.0 in
    subst (λ (n : ℕ). n ≤ c.fail.new.journal.reserved) (sym c.owed_end-owed.ensures)
    (forgone-left u c.args.pass c.args.file c.args.page c.args.book.now c.args.journal.now c.requires.may.1 c.requires.reserved _ c.fail.new.journal c.fail.ensures.placed)

pub returns-in-Ok-Some : goal.returns-in-Ok-Some
returns-in-Ok-Some g c u may =
    let fill = may in
    let given : c.release.new.self ≡ forgoing c.args.journal.now c.args.pass c.fail.new.journal =
    c.release.ensures
    ∙ ap (λ (n : ℕ). record c.fail.new.journal { reserved = c.fail.new.journal.reserved - n }) c.owed_end-owed.ensures in
    subst (λ (k : JournalState g.row.Q.Denot). AttemptRefused u c.args.pass (call.NcRead c.args.file c.args.page) c.in-Ok-Some.error c.args.book.now c.fail.new.self (without_one c.args.journal.now) k) (sym given)
    (refused-here u c.args.pass c.args.file c.args.page c.args.book.now c.args.journal.now fill c.requires.reserved c.in-Ok-Some.error c.fail.new.self c.fail.new.journal
    (sym (c.in-Ok-Some.ensures u (u.opening c.args.book.now.stream) fill.may.stand.logs_are fill.may.stand.stands) ∙ c.in-Ok-Some.field-0-is)
    c.fail.ensures.placed c.fail.ensures.stands c.fail.ensures.same)

pub admitted-requires-clause-may : goal.admitted-requires-clause-may
admitted-requires-clause-may g c =
    let u = c.requires.may.0 in
    let may = c.requires.may.1 in
    (u, may, sym (c.in-Ok-None.ensures u (u.opening c.args.book.now.stream) may.may.stand.logs_are may.may.stand.stands) ∙ c.in-Ok-None.field-0-is)

pub returns-in-Ok-None : goal.returns-in-Ok-None
returns-in-Ok-None g c u may =
    gone-on u c.args.pass c.args.file c.args.page c.args.written c.args.book.now c.admitted.new.book c.args.journal.now c.admitted.new.journal c.admitted.result
    (c.admitted.ensures u may (sym (c.in-Ok-None.ensures u (u.opening c.args.book.now.stream) may.may.stand.logs_are may.may.stand.stands) ∙ c.in-Ok-None.field-0-is))
