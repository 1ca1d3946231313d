-- The entry of the refusal, or of the fault where nothing refuses, is good; an end that is owed is given up with it.
use Rattle.std.specs.Prelude.{◌≡◌, ℕ, ◌+◌, ◌-◌, ◌≤◌}
use Rattle.std.proofs.Common.{ap, sym, ◌∙◌, subst, arith}
use Rattle.cc_book.specs.Book.{Gains, GoesOn, failed}
use Rattle.cc_journal.specs.Calls.{owed_end}
use Rattle.cc_journal.specs.Journal.{JournalState}
use Rattle.cc_step.specs.Faults.{ToldFault}
use Rattle.cc_step.specs.Step.{AttemptRefused}
use Rattle.cc_step.proofs.Attempts.{forgoing, forgone-within}
use Rattle.cc_step.proofs.Ended.{refused-placed, told-placed}
use Rattle.cc_step.proofs.Placed.{good-failed, good-met, so-far}
use Rattle.cc_step.proofs.faults.answer.Goals as goal

pub fail-requires-clause-may : goal.fail-requires-clause-may
fail-requires-clause-may g c =
    let u = c.requires.may.0 in
    let may = c.requires.may.1.may in
    let here = c.requires.answered in
    let good = good-failed u c.args.journal.now.entries c.args.pass c.args.book.now.stream c.args.call c.in-Some.error here may.stand.good may.filed (c.requires.may.2 ∙ c.in-Some.is) in
    rw (ap (λ j. j.entries) c.in-Ok.ensures.reserved) (u, so-far u _ good, may.stand.stands)

pub fail-requires-in-None-clause-may : goal.fail-requires-in-None-clause-may
fail-requires-in-None-clause-may g c =
    let u = c.requires.may.0 in
    let may = c.requires.may.1.may in
    let here = c.requires.answered in
    let good = good-met u c.args.journal.now.entries c.args.pass c.args.book.now.stream c.args.call c.args.fault here may.stand.good may.filed c.requires.may.1.met (c.requires.may.2 ∙ c.in-None.is) in
    rw (ap (λ j. j.entries) c.in-Ok.ensures.reserved) (u, so-far u _ good, may.stand.stands)

within : (owed its now reserved : ℕ) → owed ≡ its → now ≡ (reserved + 1) - 1 → its ≤ reserved → owed ≤ now
within owed its now reserved is left most = omega (arith, is, left, most)

pub release-requires : goal.release-requires
release-requires g c =
    let same = c.in-Ok.ensures.reserved in
    within _ _ _ _ (c.owed_end-owed.ensures ∙ ap (λ (j : JournalState g.row.Q.Denot). owed_end j.entries c.args.pass) same)
    (ap (λ (j : JournalState g.row.Q.Denot). j.reserved) c.fail.ensures.placed ∙ ap (λ (j : JournalState g.row.Q.Denot). j.reserved - 1) same)
    (forgone-within c.args.pass c.args.journal.now c.requires.may.1.may.owed)

pub release-requires-in-None : goal.release-requires-in-None
release-requires-in-None g c =
    let same = c.in-Ok.ensures.reserved in
    within _ _ _ _ (c.owed_end-owed.ensures ∙ ap (λ (j : JournalState g.row.Q.Denot). owed_end j.entries c.args.pass) same)
    (ap (λ (j : JournalState g.row.Q.Denot). j.reserved) c.fail-in-None.ensures.placed ∙ ap (λ (j : JournalState g.row.Q.Denot). j.reserved - 1) same)
    (forgone-within c.args.pass c.args.journal.now c.requires.may.1.may.owed)

pub returns-in-Some : goal.returns-in-Some
returns-in-Some g c u may is =
    let here = c.requires.answered in
    let same = c.in-Ok.ensures.reserved in
    let released : c.release.new.self ≡ forgoing c.args.journal.now c.args.pass c.fail.new.journal =
    c.release.ensures
    ∙ ap (λ (n : ℕ). record c.fail.new.journal { reserved = c.fail.new.journal.reserved - n })
    (c.owed_end-owed.ensures ∙ ap (λ (j : JournalState g.row.Q.Denot). owed_end j.entries c.args.pass) same) in
    subst (λ (k : JournalState g.row.Q.Denot). AttemptRefused u c.args.pass c.args.call c.in-Some.error c.args.book.now c.fail.new.self c.args.journal.now k) (sym released)
    (refused-placed u c.args.pass c.args.call c.in-Some.error c.args.book.now c.fail.new.self c.args.journal.now c.fail.new.journal here may.may (is ∙ c.in-Some.is)
    (subst (λ (j : JournalState g.row.Q.Denot). Gains (failed c.args.pass j.entries c.args.book.now.stream c.args.call c.in-Some.error) j c.fail.new.journal) same c.fail.ensures.placed)
    (subst (λ (j : JournalState g.row.Q.Denot). GoesOn j.entries c.fail.new.journal.entries c.args.book.now c.fail.new.self) same c.fail.ensures.stands)
    c.fail.ensures.same)

pub returns-in-None : goal.returns-in-None
returns-in-None g c u may is =
    let here = c.requires.answered in
    let same = c.in-Ok.ensures.reserved in
    let released : c.release-in-None.new.self ≡ forgoing c.args.journal.now c.args.pass c.fail-in-None.new.journal =
    c.release-in-None.ensures
    ∙ ap (λ (n : ℕ). record c.fail-in-None.new.journal { reserved = c.fail-in-None.new.journal.reserved - n })
    (c.owed_end-owed.ensures ∙ ap (λ (j : JournalState g.row.Q.Denot). owed_end j.entries c.args.pass) same) in
    subst (λ (k : JournalState g.row.Q.Denot). ToldFault u c.args.pass c.args.call c.args.fault c.args.book.now c.fail-in-None.new.self c.args.journal.now k) (sym released)
    (told-placed u c.args.pass c.args.call c.args.fault c.args.book.now c.fail-in-None.new.self c.args.journal.now c.fail-in-None.new.journal here may (is ∙ c.in-None.is)
    (subst (λ (j : JournalState g.row.Q.Denot). Gains (failed c.args.pass j.entries c.args.book.now.stream c.args.call c.args.fault) j c.fail-in-None.new.journal) same c.fail-in-None.ensures.placed)
    (subst (λ (j : JournalState g.row.Q.Denot). GoesOn j.entries c.fail-in-None.new.journal.entries c.args.book.now c.fail-in-None.new.self) same c.fail-in-None.ensures.stands)
    c.fail-in-None.ensures.same)
