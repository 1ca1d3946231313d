use Rattle.std.specs.Prelude.{◌≡◌, Bool, true, false, refl, if◌then◌else◌}
use Rattle.std.proofs.Common.{ap, ◌∙◌}
use mir.Val.{bool_byte}
use Rattle.cc_step.proofs.steps.places_spared.Goals as goal

-- what the end of a hold gives back, by whether a pin owes a set-dirty
at-end : (owes : Bool) → bool_byte owes ≡ (if owes then 1 else 0)
at-end true = refl
at-end false = refl

pub returns-in-EndHold : goal.returns-in-EndHold
returns-in-EndHold c opening past stands =
    rw c.in-EndHold.is (c.from.ensures ∙ ap bool_byte (c.owes_set_dirty.ensures opening past stands) ∙ at-end _)
