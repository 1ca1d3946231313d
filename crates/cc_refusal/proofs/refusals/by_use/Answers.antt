use Rattle.std.proofs.Common.{refl, ap, ◌∙◌}
use Rattle.cc_model.specs.Refusals.{first_of}
use Rattle.cc_refusal.proofs.FirstReasons.{same_reasons}
use Rattle.cc_refusal.proofs.refusals.by_use.Goals as goal

pub returns : goal.returns
returns c = λ u past h stands least free within.
    c.first_in.ensures
    ∙ ap first_of
    (same_reasons (c.in_ok-by_views.ensures h stands.state stands.holds least within)
    (same_reasons (c.by_pool.ensures past h stands.mapped free)
    (same_reasons (c.by_residents.ensures h least) refl)))
