-- By the refusal: the entry of the failed read, or of the read with its reply, may stand on the reserved place, and the
-- place of the end that the pass owed is released.
use Rattle.std.specs.Prelude.{◌≡◌, ℕ, ◌-◌, ◌≤◌}
use Rattle.std.proofs.Common.{ap, sym, ◌∙◌, subst}
use Rattle.cc_entry.specs.declared.call.Call.TheVariants as call
use Rattle.cc_entry.specs.declared.reply.Reply.TheVariants as reply
use Rattle.cc_journal.specs.Journal.{JournalState}
use Rattle.cc_step.specs.Step.{AttemptDone, AttemptRefused}
use Rattle.cc_step.proofs.Attempts.{forgoing}
use Rattle.cc_ranges.proofs.ReadStepping.{may-fail, refused-here, forgone-left, may-do, done-here}
use Rattle.cc_ranges.proofs.read_steps.end.Goals as goal
use Rattle.cc_ranges.specs.FlushSteps.{without_one}

pub fail-requires-clause-may : goal.fail-requires-clause-may
fail-requires-clause-may g c =
    let u = c.requires.may.0 in
    let fill = c.requires.may.1.may in
    may-fail u c.args.pass c.args.file c.args.page c.args.book.now c.args.journal.now fill c.requires.reserved c.in-Ok-Some.error
    (sym (c.in-Ok-Some.ensures u (u.opening c.args.book.now.stream) fill.may.stand.logs_are fill.may.stand.stands) ∙ c.in-Ok-Some.field-0-is)

pub release-requires : goal.release-requires
release-requires g c =
    let u = c.requires.may.0 in
    subst (λ (n : ℕ). n ≤ c.fail.new.journal.reserved) (sym c.owed_end-owed.ensures)
    (forgone-left u c.args.pass c.args.file c.args.page c.args.book.now c.args.journal.now c.requires.may.1.may c.requires.reserved _ c.fail.new.journal c.fail.ensures.placed)

pub returns-in-Ok-Some : goal.returns-in-Ok-Some
returns-in-Ok-Some g c u may =
    let fill = may.may in
    let given : c.release.new.self ≡ forgoing c.args.journal.now c.args.pass c.fail.new.journal =
    c.release.ensures
    ∙ ap (λ (n : ℕ). record c.fail.new.journal { reserved = c.fail.new.journal.reserved - n }) c.owed_end-owed.ensures in
    subst (λ (k : JournalState g.row.Q.Denot). AttemptRefused u c.args.pass (call.NcRead c.args.file c.args.page) c.in-Ok-Some.error c.args.book.now c.fail.new.self (without_one c.args.journal.now) k) (sym given)
    (refused-here u c.args.pass c.args.file c.args.page c.args.book.now c.args.journal.now fill c.requires.reserved c.in-Ok-Some.error c.fail.new.self c.fail.new.journal
    (sym (c.in-Ok-Some.ensures u (u.opening c.args.book.now.stream) fill.may.stand.logs_are fill.may.stand.stands) ∙ c.in-Ok-Some.field-0-is)
    c.fail.ensures.placed c.fail.ensures.stands c.fail.ensures.same)

pub read_noncached-requires : goal.read_noncached-requires
read_noncached-requires g c =
    let u = c.requires.may.0 in
    let fill = c.requires.may.1.may in
    record { stands = (u.opening c.args.book.now.stream, c.args.journal.now.entries, fill.may.stand.stands) }

pub done-requires-clause-may : goal.done-requires-clause-may
done-requires-clause-may g c =
    let u = c.requires.may.0 in
    let fill = c.requires.may.1.may in
    let admitted = sym (c.in-Ok-None.ensures u (u.opening c.args.book.now.stream) fill.may.stand.logs_are fill.may.stand.stands) ∙ c.in-Ok-None.field-0-is in (
      u,
      may-do u c.args.pass c.args.file c.args.page c.args.book.now c.args.journal.now fill c.requires.reserved admitted (reply.Read c.in-Ok.bytes)
          (c.in-Ok.ensures (u.opening c.args.book.now.stream) c.args.journal.now.entries fill.may.stand.stands c.requires.may.1.read),
    )

pub release-requires-in-Ok-done : goal.release-requires-in-Ok-done
release-requires-in-Ok-done g c =
    let u = c.requires.may.0 in
    subst (λ (n : ℕ). n ≤ c.done.new.journal.reserved) (sym c.owed_end-owed-in-Ok.ensures)
    (forgone-left u c.args.pass c.args.file c.args.page c.args.book.now c.args.journal.now c.requires.may.1.may c.requires.reserved _ c.done.new.journal c.in-Ok-done.ensures.placed)

pub returns-in-Ok-done : goal.returns-in-Ok-done
returns-in-Ok-done g c u may =
    let fill = may.may in
    let admitted = sym (c.in-Ok-None.ensures u (u.opening c.args.book.now.stream) fill.may.stand.logs_are fill.may.stand.stands) ∙ c.in-Ok-None.field-0-is in
    let reads = c.in-Ok.ensures (u.opening c.args.book.now.stream) c.args.journal.now.entries fill.may.stand.stands may.read in
    let given : c.release-in-Ok-done.new.self ≡ forgoing c.args.journal.now c.args.pass c.done.new.journal =
    c.release-in-Ok-done.ensures
    ∙ ap (λ (n : ℕ). record c.done.new.journal { reserved = c.done.new.journal.reserved - n }) c.owed_end-owed-in-Ok.ensures in (
      reply.Read c.in-Ok.bytes,
      subst (λ (k : JournalState g.row.Q.Denot). AttemptDone u c.args.pass (call.NcRead c.args.file c.args.page) (reply.Read c.in-Ok.bytes) c.args.book.now c.done.new.self (without_one c.args.journal.now) k) (sym given)
          (done-here u c.args.pass c.args.file c.args.page c.args.book.now c.args.journal.now fill c.requires.reserved admitted (reply.Read c.in-Ok.bytes) reads c.done.new.self c.done.new.journal
          c.in-Ok-done.ensures.placed
          (c.in-Ok-done.ensures.stands u (may-do u c.args.pass c.args.file c.args.page c.args.book.now c.args.journal.now fill c.requires.reserved admitted (reply.Read c.in-Ok.bytes) reads))
          c.in-Ok-done.ensures.stream),
    )
