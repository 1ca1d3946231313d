use Rattle.std.proofs.Common.{refl, ap, ◌∙◌}
use Rattle.cc_model.specs.Refusals.{first_of}
use Rattle.cc_refusal.proofs.FirstReasons.{same_reasons}
use Rattle.cc_refusal.proofs.refusals.by_conflicts.Goals as goal

pub returns : goal.returns
returns c = λ u past h stands.
    c.first_in.ensures
    ∙ ap first_of (same_reasons (c.by_holds.ensures h stands.state stands.holds) (same_reasons (c.by_pins.ensures h stands.holds) refl))
