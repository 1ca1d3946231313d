-- A call that is ready, with its reply, keeps the journal good; without memory book and journal mean what they did.
use Rattle.std.specs.Prelude.{ℕ, ◌-◌, refl}
use Rattle.std.proofs.Common.{ap, sym, ◌∙◌, subst}
use Rattle.cc_book.specs.Book.{BookStands}
use Rattle.cc_journal.specs.Journal.{JournalState}
use Rattle.cc_step.proofs.Placed.{good-done, so-far}
use Rattle.cc_step.proofs.steps.place.Goals as goal

pub done-requires-clause-may : goal.done-requires-clause-may
done-requires-clause-may g c =
    let u = c.requires.may.0 in
    let may = c.requires.may.1 in
    let good = good-done u c.args.journal.now.entries c.args.pass c.args.book.now.stream c.args.call c.args.answer c.requires.stepped may.stand.good may.filed c.requires.may.2 c.requires.may.3 in
    (u, record { good = so-far u _ good; stands = may.stand.stands })

pub returns-in-Ok : goal.returns-in-Ok
returns-in-Ok g c u may ready answers =
    let good = good-done u c.args.journal.now.entries c.args.pass c.args.book.now.stream c.args.call c.args.answer c.requires.stepped may.stand.good may.filed ready answers in
    let placed = c.in-Ok.ensures.placed in
    let stands = c.in-Ok.ensures.stands u (record { good = so-far u _ good; stands = may.stand.stands }) in (
      placed,
      record {
        good = rw (ap (λ j. j.entries) placed) good;
        stands = subst (λ (n : ℕ). BookStands (u.opening n) c.done.new.journal.entries c.done.new.self) (sym c.done.ensures.stream) stands;
        logs_are = may.stand.logs_are ∙ sym (ap (λ j. j.logs) placed);
        threshold_is = may.stand.threshold_is ∙ sym (ap (λ j. j.threshold) placed);
      },
      c.done.ensures.stream,
    )

pub returns-in-Err : goal.returns-in-Err
returns-in-Err g c u may ready answers =
    let stays = c.in-Err.ensures.err in
    let released = c.release.ensures ∙ ap (λ (j : JournalState g.row.Q.Denot). record j { reserved = j.reserved - c.args.more }) stays.0 in
    let stands = stays.1.stands c.args.journal.now.entries (u.opening c.args.book.now.stream) may.stand.stands in (
      refl,
      released,
      record {
        good = rw (ap (λ j. j.entries) released) may.stand.good;
        stands = subst (λ (n : ℕ). BookStands (u.opening n) c.release.new.self.entries c.done.new.self) (sym stays.1.stream) (rw (ap (λ j. j.entries) released) stands);
        logs_are = may.stand.logs_are ∙ sym (ap (λ j. j.logs) released);
        threshold_is = may.stand.threshold_is ∙ sym (ap (λ j. j.threshold) released);
      },
      stays.1.stream,
    )
