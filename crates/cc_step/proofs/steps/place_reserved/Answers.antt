-- Nothing refuses such a call, so it may be done on its own place; the places that it spares are given back.
use Rattle.std.specs.Prelude.{◌≡◌, ℕ, ◌+◌, ◌-◌, ◌<◌, ◌≤◌}
use Rattle.std.proofs.Common.{ap, sym, ◌∙◌, subst, arith}
use Rattle.cc_entry.specs.declared.reply.Reply.TheVariants as reply
use Rattle.cc_book.specs.Book.{BookStands, done}
use Rattle.cc_journal.specs.Calls.{owed_end}
use Rattle.cc_journal.specs.Journal.{JournalState}
use Rattle.cc_step.specs.Step.{AddsOwing}
use Rattle.cc_step.proofs.Placed.{so-far}
use Rattle.cc_step.proofs.KeptPlaces.{good-none, places-reserved, adds-released}
use Rattle.cc_step.proofs.steps.place_reserved.Goals as goal

pub done-requires-clause-reserved : goal.done-requires-clause-reserved
done-requires-clause-reserved g c =
    let below : c.args.book.now.stream < 16 = subst (λ (n : ℕ). n < 16) (c.number-stream.ensures.same ∙ c.stream.ensures) c.number-stream.ensures.in_range in
    some _ _ _ (places-reserved c.requires.may.0 c.args.pass c.args.call c.args.book.now c.args.journal.now below c.requires.stepped c.requires.may.1 c.requires.may.2)
  where
    some : (spared owed reserved : ℕ) → (1 + spared) + owed ≤ reserved → 0 < reserved
    some spared owed reserved within = omega (arith, within)

pub done-requires-clause-may : goal.done-requires-clause-may
done-requires-clause-may g c =
    let u = c.requires.may.0 in
    let may = c.requires.may.1 in
    (u, record { good = so-far u _ (good-none u c.args.pass c.args.call c.args.book.now c.args.journal.now c.requires.stepped may c.requires.may.2); stands = may.stand.stands })

pub release-requires : goal.release-requires
release-requires g c =
    let u = c.requires.may.0 in
    let may = c.requires.may.1 in
    let below : c.args.book.now.stream < 16 = subst (λ (n : ℕ). n < 16) (c.number-stream.ensures.same ∙ c.stream.ensures) c.number-stream.ensures.in_range in
    within _ _ _ _ _ (places-reserved u c.args.pass c.args.call c.args.book.now c.args.journal.now below c.requires.stepped may c.requires.may.2)
    (c.places_spared-spared.ensures (u.opening c.args.book.now.stream) c.args.journal.now.entries may.stand.stands)
    (ap (λ (j : JournalState g.row.Q.Denot). j.reserved) c.in-Ok.ensures.placed)
  where
    within : (its owed before spared after : ℕ) → (1 + its) + owed ≤ before → spared ≡ its → after ≡ before - 1 → spared ≤ after
    within its owed before spared after most same less = omega (arith, most, same, less)

pub release-requires-in-Ok : goal.release-requires-in-Ok
release-requires-in-Ok g c =
    let u = c.requires.may.0 in
    let may = c.requires.may.1 in
    let below : c.args.book.now.stream < 16 = subst (λ (n : ℕ). n < 16) (c.number-stream.ensures.same ∙ c.stream.ensures) c.number-stream.ensures.in_range in
    within _ _ _ _ _ _ _ (places-reserved u c.args.pass c.args.call c.args.book.now c.args.journal.now below c.requires.stepped may c.requires.may.2)
    (c.places_spared-spared.ensures (u.opening c.args.book.now.stream) c.args.journal.now.entries may.stand.stands)
    c.owed_end-owed.ensures
    (ap (λ (j : JournalState g.row.Q.Denot). j.reserved) c.in-Ok.ensures.placed)
    (ap (λ (j : JournalState g.row.Q.Denot). j.reserved) c.release.ensures)
  where
    within : (its owed before spared given after left : ℕ) → (1 + its) + owed ≤ before → spared ≡ its → given ≡ owed → after ≡ before - 1 → left ≡ after - spared → given ≤ left
    within its owed before spared given after left most same gives less now = omega (arith, most, same, gives, less, now)

pub returns : goal.returns
returns g c u may asks =
    let past = c.args.journal.now.entries in
    let e = done c.args.pass past c.args.book.now.stream c.args.call reply.Unit in
    let below : c.args.book.now.stream < 16 = subst (λ (n : ℕ). n < 16) (c.number-stream.ensures.same ∙ c.stream.ensures) c.number-stream.ensures.in_range in
    let good = good-none u c.args.pass c.args.call c.args.book.now c.args.journal.now c.requires.stepped may asks in
    let spared = c.places_spared-spared.ensures (u.opening c.args.book.now.stream) past may.stand.stands in
    let released = adds-released u c.args.pass c.places_spared-spared.result c.args.call c.args.book.now c.args.journal.now c.done.new.journal below c.requires.stepped may asks spared c.in-Ok.ensures.placed in
    let given : c.release-in-Ok.new.self ≡ record c.done.new.journal { reserved = (c.done.new.journal.reserved - c.places_spared-spared.result) - owed_end past c.args.pass } =
    c.release-in-Ok.ensures
    ∙ (ap (λ (k : JournalState g.row.Q.Denot). record k { reserved = k.reserved - c.owed_end-owed.result }) c.release.ensures
    ∙ ap (λ (n : ℕ). record c.done.new.journal { reserved = (c.done.new.journal.reserved - c.places_spared-spared.result) - n }) c.owed_end-owed.ensures) in
    let placed : AddsOwing e c.args.journal.now c.release-in-Ok.new.self = subst (λ (k : JournalState g.row.Q.Denot). AddsOwing e c.args.journal.now k) (sym given) released in
    let same = ap (λ (j : JournalState g.row.Q.Denot). j.entries) given in
    let stands = c.in-Ok.ensures.stands u (record { good = so-far u _ good; stands = may.stand.stands }) in (
      reply.Unit,
      record {
        placed = placed;
        stand = record {
          good = rw (ap (λ (j : JournalState g.row.Q.Denot). j.entries) placed) good;
          stands = subst (λ (n : ℕ). BookStands (u.opening n) c.release-in-Ok.new.self.entries c.done.new.self) (sym c.done.ensures.stream) (rw same stands);
          logs_are = may.stand.logs_are ∙ sym (ap (λ (j : JournalState g.row.Q.Denot). j.logs) placed);
          threshold_is = may.stand.threshold_is ∙ sym (ap (λ (j : JournalState g.row.Q.Denot). j.threshold) placed);
        };
        stream = c.done.ensures.stream;
      },
    )
