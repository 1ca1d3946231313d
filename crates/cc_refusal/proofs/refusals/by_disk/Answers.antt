use Rattle.std.proofs.Common.{refl, ap, ◌∙◌}
use Rattle.cc_model.specs.Refusals.{first_of}
use Rattle.cc_refusal.proofs.FirstReasons.{same_reasons}
use Rattle.cc_refusal.proofs.refusals.by_disk.Goals as goal

pub returns : goal.returns
returns c = λ u past h stands.
    c.first_in.ensures
    ∙ ap first_of
    (same_reasons (c.by_images.ensures h stands.images stands.dirty) (same_reasons (c.by_growth.ensures h stands.images) refl))
