-- A page that is wanted comes in where it was read if it has to be; one that is not stays out.
use Rattle.std.specs.Prelude.{◌≡◌, refl}
use Rattle.std.specs.Option.{option_copied}
use Rattle.std.proofs.Common.{sym, ◌∙◌, inr}
use Rattle.cc_step.proofs.Awaiting.{wanted-of, unwanted-of}
use Rattle.cc_step.proofs.landing.land_on_book.Goals as goal

pub place-requires-clause-may : goal.place-requires-clause-may
place-requires-clause-may g c =
    let u = c.requires.may.0 in
    let may = c.requires.may.1 in
    let past = c.args.journal.now.entries in (
      u,
      c.args.call.now,
      record {
        may = may.may;
        stepped = c.requires.stepped;
        brings = c.requires.brings;
        wanted = wanted-of u past c.args.book.now.stream c.args.call.now c.args.page (sym (c.in-Ok-true.ensures u may.may.may.stand) ∙ c.in-Ok-true.field-0-test);
      },
    )

pub returns-in-Ok-true : goal.returns-in-Ok-true
returns-in-Ok-true g c u may =
    let past = c.args.journal.now.entries in
    c.place.ensures u c.args.call.now (record {
      may = may.may;
      stepped = c.requires.stepped;
      brings = c.requires.brings;
      wanted = wanted-of u past c.args.book.now.stream c.args.call.now c.args.page (sym (c.in-Ok-true.ensures u may.may.may.stand) ∙ c.in-Ok-true.field-0-test);
    }) may.read

pub returns-in-Ok-false : goal.returns-in-Ok-false
returns-in-Ok-false g c u may = inr (record {
  reason = unwanted-of u c.args.journal.now.entries c.args.book.now.stream c.args.call.now c.args.page (option_copied c.args.raw) (sym (c.in-Ok-false.ensures u may.may.may.stand) ∙ c.in-Ok-false.field-0-test);
  given_back = c.release.ensures;
  same = refl;
})
