-- The book looks for the bytes that the query names.
use Rattle.std.specs.Prelude.{ℕ, Option}
use Rattle.std.proofs.Common.{ap, sym, ◌∙◌}
use Rattle.cc_model.specs.History.{history}
use Rattle.cc_model.specs.Ranges.{queried_range}
use Rattle.cc_model.specs.Touches.{size_of}
use Rattle.cc_step.specs.Step.{least_absent}
use Rattle.cc_step.proofs.steps.absent_for.Goals as goal

pub returns : goal.returns
returns c opening past stands =
    let h = history past c.args.book.now.stream in
    c.absent_below.ensures opening past stands
    ∙ ap (λ (extent : Option (ℕ × ℕ)). least_absent h (queried_range (size_of h) extent)) (sym c.in_ok-at.was ∙ c.extent.ensures)
