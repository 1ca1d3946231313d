use Rattle.std.specs.Prelude.{◌≡◌, ◌+◌, min, refl}
use Rattle.std.proofs.Common.{◌∙◌}
use Rattle.cc_model.specs.History.{history}
use Rattle.cc_model.specs.Touches.{size_of}
use Rattle.cc_step.proofs.steps.absent_below.Goals as goal

pub returns : goal.returns
returns c opening past stands =
    let h = history past c.args.book.now.stream in
    let to : c.min-to.result ≡ min (c.args.at + c.args.len) (size_of h) = c.min-to.ensures ∙ rw (c.from.ensures, c.from-2.ensures, c.from-3.ensures, c.size.ensures opening past stands) refl in
    c.first_absent.ensures opening past stands ∙ rw to refl
