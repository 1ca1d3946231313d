-- By the refusal: the entry of the call that failed is good, or that of the done one; what the pass owed comes back.
use Rattle.std.specs.Prelude.{◌≡◌, ℕ, ◌-◌, ◌≤◌, Err, Ok}
use Rattle.std.proofs.Common.{ap, sym, ◌∙◌, subst}
use Rattle.cc_journal.specs.Journal.{JournalState}
use Rattle.cc_step.proofs.Attempts.{forgoing}
use Rattle.cc_ranges.specs.FlushSteps.{without_one}
use Rattle.cc_calls.specs.Discards.{DiscardStepLeft}
use Rattle.cc_calls.proofs.Discarding.{left-done, left-refused, may-do, may-fail, owed-within}
use Rattle.cc_calls.proofs.discards.decide.Goals as goal

pub fail-requires-clause-may : goal.fail-requires-clause-may
fail-requires-clause-may g c =
    let u = c.requires.may.0 in
    let may = c.requires.may.1 in
    may-fail u c.args.pass c.args.file c.args.span c.args.book.now c.args.journal.now may c.in-Ok-Some.error
    (sym (c.in-Ok-Some.ensures u (u.opening c.args.book.now.stream) may.may.stand.logs_are may.may.stand.stands) ∙ c.in-Ok-Some.field-0-is)

pub release-requires : goal.release-requires
release-requires g c =
    let u = c.requires.may.0 in
    subst (λ (n : ℕ). n ≤ c.fail.new.journal.reserved) (sym c.owed_end-owed.ensures)
    (owed-within u c.args.pass c.args.file c.args.span c.args.book.now c.args.journal.now c.requires.may.1 _ c.fail.new.journal c.fail.ensures.placed)

pub done-requires-clause-may : goal.done-requires-clause-may
done-requires-clause-may g c =
    let u = c.requires.may.0 in
    let may = c.requires.may.1 in (
      u,
      may-do u c.args.pass c.args.file c.args.span c.args.book.now c.args.journal.now may
          (sym (c.in-Ok-None.ensures u (u.opening c.args.book.now.stream) may.may.stand.logs_are may.may.stand.stands) ∙ c.in-Ok-None.field-0-is),
    )

pub release-requires-in-Ok : goal.release-requires-in-Ok
release-requires-in-Ok g c =
    let u = c.requires.may.0 in
    subst (λ (n : ℕ). n ≤ c.done.new.journal.reserved) (sym c.owed_end-owed.ensures)
    (owed-within u c.args.pass c.args.file c.args.span c.args.book.now c.args.journal.now c.requires.may.1 _ c.done.new.journal c.in-Ok.ensures.placed)

pub returns-in-Ok-Some : goal.returns-in-Ok-Some
returns-in-Ok-Some g c = record {
  left = λ u may.
      let given : c.release.new.self ≡ forgoing c.args.journal.now c.args.pass c.fail.new.journal =
      c.release.ensures
      ∙ ap (λ (n : ℕ). record c.fail.new.journal { reserved = c.fail.new.journal.reserved - n }) c.owed_end-owed.ensures in
      subst (λ (k : JournalState g.row.Q.Denot). DiscardStepLeft u c.args.pass c.args.file c.args.span (Err c.in-Ok-Some.error) c.args.book.now c.fail.new.self (without_one c.args.journal.now) k) (sym given)
      (left-refused u c.args.pass c.args.file c.args.span c.args.book.now c.args.journal.now may c.in-Ok-Some.error
      (sym (c.in-Ok-Some.ensures u (u.opening c.args.book.now.stream) may.may.stand.logs_are may.may.stand.stands) ∙ c.in-Ok-Some.field-0-is)
      c.fail.new.self c.fail.new.journal c.fail.ensures.placed c.fail.ensures.stands c.fail.ensures.same);
}

pub returns-in-Ok : goal.returns-in-Ok
returns-in-Ok g c = record {
  left = λ u may.
      let admitted = sym (c.in-Ok-None.ensures u (u.opening c.args.book.now.stream) may.may.stand.logs_are may.may.stand.stands) ∙ c.in-Ok-None.field-0-is in
      let given : c.release-in-Ok.new.self ≡ forgoing c.args.journal.now c.args.pass c.done.new.journal =
      c.release-in-Ok.ensures
      ∙ ap (λ (n : ℕ). record c.done.new.journal { reserved = c.done.new.journal.reserved - n }) c.owed_end-owed.ensures in
      subst (λ (k : JournalState g.row.Q.Denot). DiscardStepLeft u c.args.pass c.args.file c.args.span (Ok tt) c.args.book.now c.done.new.self (without_one c.args.journal.now) k) (sym given)
      (left-done u c.args.pass c.args.file c.args.span c.args.book.now c.args.journal.now may admitted c.done.new.self c.done.new.journal c.in-Ok.ensures.placed
      (c.in-Ok.ensures.stands u (may-do u c.args.pass c.args.file c.args.span c.args.book.now c.args.journal.now may admitted))
      c.in-Ok.ensures.stream);
}
