-- What refuses is the definitions' refusal: without one the call is admitted, with one its failed entry is good.
use Rattle.std.proofs.Common.{ap, sym, ◌∙◌}
use Rattle.cc_step.proofs.Failing.{stepped-answered}
use Rattle.cc_step.proofs.Placed.{good-failed, so-far}
use Rattle.cc_step.proofs.steps.step.Goals as goal

pub admitted-requires-clause-may : goal.admitted-requires-clause-may
admitted-requires-clause-may g c =
    let u = c.requires.may.0 in
    let may = c.requires.may.1 in
    let reason = c.in-Ok-None.ensures u (u.opening c.args.book.now.stream) may.stand.logs_are may.stand.stands in
    (u, may, sym reason ∙ c.in-Ok-None.field-0-is)

pub returns-in-Ok-None : goal.returns-in-Ok-None
returns-in-Ok-None g c u may =
    c.admitted.ensures u may (sym (c.in-Ok-None.ensures u (u.opening c.args.book.now.stream) may.stand.logs_are may.stand.stands) ∙ c.in-Ok-None.field-0-is)

pub fail-requires-clause-may : goal.fail-requires-clause-may
fail-requires-clause-may g c =
    let u = c.requires.may.0 in
    let may = c.requires.may.1 in
    let reason = sym (c.in-Ok-Some.ensures u (u.opening c.args.book.now.stream) may.stand.logs_are may.stand.stands) ∙ c.in-Ok-Some.field-0-is in
    (u, so-far u _ (good-failed u c.args.journal.now.entries c.args.pass c.args.book.now.stream c.args.call c.in-Ok-Some.error (stepped-answered c.args.call c.requires.stepped) may.stand.good may.filed reason), may.stand.stands)

pub returns-in-Ok-Some : goal.returns-in-Ok-Some
returns-in-Ok-Some g c u may =
    let past = c.args.journal.now.entries in
    let reason = sym (c.in-Ok-Some.ensures u (u.opening c.args.book.now.stream) may.stand.logs_are may.stand.stands) ∙ c.in-Ok-Some.field-0-is in
    let good = good-failed u past c.args.pass c.args.book.now.stream c.args.call c.in-Ok-Some.error (stepped-answered c.args.call c.requires.stepped) may.stand.good may.filed reason in
    let placed = c.fail.ensures.placed in
    record {
      reason = reason;
      placed = placed;
      stand = record {
        good = rw (ap (λ j. j.entries) placed) good;
        stands = rw c.fail.ensures.same (rw c.fail.ensures.same at (c.fail.ensures.stands (u.opening c.args.book.now.stream) may.stand.stands));
        logs_are = may.stand.logs_are ∙ sym (ap (λ j. j.logs) placed);
        threshold_is = may.stand.threshold_is ∙ sym (ap (λ j. j.threshold) placed);
      };
      same = c.fail.ensures.same;
    }
