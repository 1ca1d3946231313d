use Rattle.std.proofs.Common.{◌∙◌}
use Rattle.cc_model.specs.Objects.{objects}
use Rattle.cc_refusal.proofs.OtherObjects.{any-others}
use Rattle.cc_refusal.proofs.conflicts.has_others.Goals as goal

pub returns : goal.returns
returns c = λ h stands.
    c.any_other.ensures ∙ any-others c.args.object c.args.state.now.opened (objects h) stands.opened stands.numbered
