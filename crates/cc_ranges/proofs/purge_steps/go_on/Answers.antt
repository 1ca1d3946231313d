-- By refusal and dirty pages: the entry of the failed call is good, a dirty page is to write, or the span is emptied.
use Rattle.std.specs.Prelude.{◌≡◌, ℕ, ◌-◌, ◌≤◌}
use Rattle.std.proofs.Common.{ap, sym, ◌∙◌, subst}
use Rattle.cc_entry.specs.declared.call.Call.TheVariants as call
use Rattle.cc_journal.specs.Journal.{JournalState}
use Rattle.cc_model.specs.History.{history}
use Rattle.cc_step.specs.Step.{AttemptRefused}
use Rattle.cc_step.proofs.Attempts.{forgoing}
use Rattle.cc_ranges.specs.Dirty.{IsNext, IsCleanFrom}
use Rattle.cc_ranges.specs.FlushSteps.{without_one}
use Rattle.cc_ranges.specs.PurgeSteps.{PurgeGoneOn}
use Rattle.cc_ranges.proofs.PurgeStepping.{may-fail, refused-here, refused-within, to-write}
use Rattle.cc_ranges.proofs.purge_steps.go_on.Goals as goal

pub fail-requires-clause-may : goal.fail-requires-clause-may
fail-requires-clause-may g c =
    let u = c.requires.may.0 in
    let may = c.requires.may.1 in
    may-fail u c.args.pass c.args.file c.args.span.now c.args.book.now c.args.journal.now may c.requires.reserved c.in-Ok-Some.error
    (sym (c.in-Ok-Some.ensures u (u.opening c.args.book.now.stream) may.may.stand.logs_are may.may.stand.stands) ∙ c.in-Ok-Some.field-0-is)

pub release-requires : goal.release-requires
release-requires g c =
    let u = c.requires.may.0 in
    subst (λ (n : ℕ). n ≤ c.fail.new.journal.reserved) (sym c.owed_end-owed.ensures)
    (refused-within u c.args.pass c.args.file c.args.span.now c.args.book.now c.args.journal.now c.requires.may.1 c.requires.reserved c.in-Ok-Some.error c.fail.new.journal
    c.fail.ensures.placed)

pub returns-in-Ok-Some-clause-left : goal.returns-in-Ok-Some-clause-left
returns-in-Ok-Some-clause-left g c u may =
    let given : c.release.new.self ≡ forgoing c.args.journal.now c.args.pass c.fail.new.journal =
    c.release.ensures
    ∙ ap (λ (n : ℕ). record c.fail.new.journal { reserved = c.fail.new.journal.reserved - n }) c.owed_end-owed.ensures in
    subst (λ (k : JournalState g.row.Q.Denot). AttemptRefused u c.args.pass (call.Purge c.args.file c.args.span.now) c.in-Ok-Some.error c.args.book.now c.fail.new.self (without_one c.args.journal.now) k) (sym given)
    (refused-here u c.args.pass c.args.file c.args.span.now c.args.book.now c.args.journal.now may c.requires.reserved c.in-Ok-Some.error c.fail.new.self c.fail.new.journal
    (sym (c.in-Ok-Some.ensures u (u.opening c.args.book.now.stream) may.may.stand.logs_are may.may.stand.stands) ∙ c.in-Ok-Some.field-0-is)
    c.fail.ensures.placed c.fail.ensures.stands c.fail.ensures.same)

pub returns-in-Some-clause-left : goal.returns-in-Some-clause-left
returns-in-Some-clause-left g c u may =
    to-write u c.args.pass c.args.file c.args.span.now c.args.book.now c.args.journal.now may c.requires.reserved
    (sym (c.in-Ok-None.ensures u (u.opening c.args.book.now.stream) may.may.stand.logs_are may.may.stand.stands) ∙ c.in-Ok-None.field-0-is)
    c.args.from c.in-Some.page c.release-in-Some.new.self
    (subst (λ (s : ℕ). IsNext (history c.args.journal.now.entries s) c.args.span.now c.args.from c.in-Some.page) c.stream.ensures c.in-Some.ensures.next)
    c.release-in-Some.ensures

pub empty-requires-clause-may : goal.empty-requires-clause-may
empty-requires-clause-may g c =
    let u = c.requires.may.0 in
    let may = c.requires.may.1 in (
      u,
      record {
        may = may;
        admitted = sym (c.in-Ok-None.ensures u (u.opening c.args.book.now.stream) may.may.stand.logs_are may.may.stand.stands) ∙ c.in-Ok-None.field-0-is;
        clean = subst (λ (n : ℕ). IsCleanFrom (history c.args.journal.now.entries c.args.book.now.stream) c.args.span.now n) c.if-from-eq0.true
            (subst (λ (s : ℕ). IsCleanFrom (history c.args.journal.now.entries s) c.args.span.now c.args.from) c.stream.ensures c.in-None.ensures.next);
      },
    )

pub returns-then-from-eq0-clause-left : goal.returns-then-from-eq0-clause-left
returns-then-from-eq0-clause-left g c u may =
    subst (λ (n : ℕ). PurgeGoneOn u c.args.pass c.args.file c.args.span.now n c.empty.result c.args.book.now c.empty.new.book c.args.journal.now c.empty.new.journal) (sym c.if-from-eq0.true)
    (c.empty.ensures.left u (record {
      may = may;
      admitted = sym (c.in-Ok-None.ensures u (u.opening c.args.book.now.stream) may.may.stand.logs_are may.may.stand.stands) ∙ c.in-Ok-None.field-0-is;
      clean = subst (λ (n : ℕ). IsCleanFrom (history c.args.journal.now.entries c.args.book.now.stream) c.args.span.now n) c.if-from-eq0.true
          (subst (λ (s : ℕ). IsCleanFrom (history c.args.journal.now.entries s) c.args.span.now c.args.from) c.stream.ensures c.in-None.ensures.next);
    }))
