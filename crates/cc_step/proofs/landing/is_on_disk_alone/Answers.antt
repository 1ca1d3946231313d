use Rattle.std.specs.Prelude.{◌≡◌, true, false, not, refl}
use Rattle.std.proofs.Common.{ap, sym, ◌∙◌}
use Rattle.cc_model.specs.History.{history}
use Rattle.cc_model.specs.Residency.{is_resident}
use Rattle.cc_step.proofs.landing.is_on_disk_alone.Goals as goal

pub returns-then-is_none : goal.returns-then-is_none
returns-then-is_none c opening past stands =
    let h = history past c.args.book.now.stream in
    let absent : is_resident h c.args.page ≡ false = sym (c.page.ensures.resident opening past stands) ∙ (c.is_none.ensures ∙ ap not c.if-is_none.true) in
    rw (absent, c.has_valid_byte.ensures opening past stands) refl

pub returns-else-is_none : goal.returns-else-is_none
returns-else-is_none c opening past stands =
    let h = history past c.args.book.now.stream in
    let here : is_resident h c.args.page ≡ true = sym (c.page.ensures.resident opening past stands) ∙ (c.is_none.ensures ∙ ap not c.if-is_none.false) in
    rw (here, c.if-is_none.false) refl
