-- The place reserved first serves the entry, and the end owed is given up with it; a call that waits gives it back.
use Rattle.std.specs.Prelude.{◌≡◌, ℕ, ◌+◌, ◌-◌, ◌<◌, ◌≤◌, false}
use Rattle.std.proofs.Common.{ap, sym, ◌∙◌, subst, arith}
use Rattle.cc_journal.specs.Calls.{owed_end}
use Rattle.cc_journal.specs.Journal.{JournalState}
use Rattle.cc_step.specs.Step.{MayStep, StepLeft, AttemptLeft, has_placed}
use Rattle.cc_step.proofs.Attempts.{forgoing, forgone-placed, left-attempt, may-reserving, one-reserved, placed-attempt, reserving}
use Rattle.cc_step.proofs.steps.place_new.Goals as goal

pub release-requires : goal.release-requires
release-requires g c =
    let u = c.requires.may.0 in
    let reserved = c.in-Ok.ensures.reserved in
    let left : StepLeft u c.args.pass c.args.more c.args.call c.step-ended.result c.args.book.now c.step-ended.new.book (reserving c.args.journal.now) c.step-ended.new.journal =
    subst (λ (j : JournalState g.row.Q.Denot). StepLeft u c.args.pass c.args.more c.args.call c.step-ended.result c.args.book.now c.step-ended.new.book j c.step-ended.new.journal) reserved
    (c.step-ended.ensures u (subst (λ (j : JournalState g.row.Q.Denot). MayStep u c.args.pass c.args.call c.args.book.now j) (sym reserved) (may-reserving u c.args.pass c.args.call c.args.book.now c.args.journal.now c.requires.may.1))) in
    let below : c.args.book.now.stream < 16 = subst (λ (n : ℕ). n < 16) (c.number-stream.ensures.same ∙ c.stream.ensures) c.number-stream.ensures.in_range in
    within _ _ _ (c.owed_end-owed.ensures ∙ ap (λ (j : JournalState g.row.Q.Denot). owed_end j.entries c.args.pass) reserved)
    (forgone-placed u c.args.pass c.args.more c.args.call c.step-ended.result c.args.book.now c.step-ended.new.book c.args.journal.now c.step-ended.new.journal
    below c.requires.stepped c.requires.may.1 c.requires.may.2 (sym c.has_placed.ensures ∙ c.if-has_placed.true) left)
  where
    within : (owed its reserved : ℕ) → owed ≡ its → its ≤ reserved → owed ≤ reserved
    within owed its reserved same most = omega (arith, same, most)

pub release-requires-else-has_placed : goal.release-requires-else-has_placed
release-requires-else-has_placed g c =
    let u = c.requires.may.0 in
    let reserved = c.in-Ok.ensures.reserved in
    let left : StepLeft u c.args.pass c.args.more c.args.call c.step-ended.result c.args.book.now c.step-ended.new.book (reserving c.args.journal.now) c.step-ended.new.journal =
    subst (λ (j : JournalState g.row.Q.Denot). StepLeft u c.args.pass c.args.more c.args.call c.step-ended.result c.args.book.now c.step-ended.new.book j c.step-ended.new.journal) reserved
    (c.step-ended.ensures u (subst (λ (j : JournalState g.row.Q.Denot). MayStep u c.args.pass c.args.call c.args.book.now j) (sym reserved) (may-reserving u c.args.pass c.args.call c.args.book.now c.args.journal.now c.requires.may.1))) in
    let away : has_placed c.step-ended.result ≡ false = sym c.has_placed.ensures ∙ c.if-has_placed.false in
    one-more c.step-ended.new.journal.reserved c.args.journal.now.reserved (one-reserved u c.args.pass c.args.more c.args.call c.step-ended.result c.args.book.now c.step-ended.new.book c.args.journal.now c.step-ended.new.journal away left)
  where
    one-more : (n m : ℕ) → n ≡ m + 1 → 1 ≤ n
    one-more n m is = omega (arith, is)

pub returns-then-has_placed : goal.returns-then-has_placed
returns-then-has_placed g c u may asks =
    let reserved = c.in-Ok.ensures.reserved in
    let left : StepLeft u c.args.pass c.args.more c.args.call c.step-ended.result c.args.book.now c.step-ended.new.book (reserving c.args.journal.now) c.step-ended.new.journal =
    subst (λ (j : JournalState g.row.Q.Denot). StepLeft u c.args.pass c.args.more c.args.call c.step-ended.result c.args.book.now c.step-ended.new.book j c.step-ended.new.journal) reserved
    (c.step-ended.ensures u (subst (λ (j : JournalState g.row.Q.Denot). MayStep u c.args.pass c.args.call c.args.book.now j) (sym reserved) (may-reserving u c.args.pass c.args.call c.args.book.now c.args.journal.now may))) in
    let below : c.args.book.now.stream < 16 = subst (λ (n : ℕ). n < 16) (c.number-stream.ensures.same ∙ c.stream.ensures) c.number-stream.ensures.in_range in
    let given : c.release.new.self ≡ forgoing c.args.journal.now c.args.pass c.step-ended.new.journal =
    c.release.ensures
    ∙ ap (λ (n : ℕ). record c.step-ended.new.journal { reserved = c.step-ended.new.journal.reserved - n })
    (c.owed_end-owed.ensures ∙ ap (λ (j : JournalState g.row.Q.Denot). owed_end j.entries c.args.pass) reserved) in
    subst (λ (k : JournalState g.row.Q.Denot). AttemptLeft u c.args.pass c.args.call c.step-ended.result c.args.book.now c.step-ended.new.book c.args.journal.now k) (sym given)
    (placed-attempt u c.args.pass c.args.more c.args.call c.step-ended.result c.args.book.now c.step-ended.new.book c.args.journal.now c.step-ended.new.journal
    below c.requires.stepped may asks (sym c.has_placed.ensures ∙ c.if-has_placed.true) left)

pub returns-else-has_placed : goal.returns-else-has_placed
returns-else-has_placed g c u may asks =
    let reserved = c.in-Ok.ensures.reserved in
    let left : StepLeft u c.args.pass c.args.more c.args.call c.step-ended.result c.args.book.now c.step-ended.new.book (reserving c.args.journal.now) c.step-ended.new.journal =
    subst (λ (j : JournalState g.row.Q.Denot). StepLeft u c.args.pass c.args.more c.args.call c.step-ended.result c.args.book.now c.step-ended.new.book j c.step-ended.new.journal) reserved
    (c.step-ended.ensures u (subst (λ (j : JournalState g.row.Q.Denot). MayStep u c.args.pass c.args.call c.args.book.now j) (sym reserved) (may-reserving u c.args.pass c.args.call c.args.book.now c.args.journal.now may))) in
    let away : has_placed c.step-ended.result ≡ false = sym c.has_placed.ensures ∙ c.if-has_placed.false in
    subst (λ (k : JournalState g.row.Q.Denot). AttemptLeft u c.args.pass c.args.call c.step-ended.result c.args.book.now c.step-ended.new.book c.args.journal.now k) (sym c.release-else-has_placed.ensures)
    (left-attempt u c.args.pass c.args.more c.args.call c.step-ended.result c.args.book.now c.step-ended.new.book c.args.journal.now c.step-ended.new.journal asks away left)
