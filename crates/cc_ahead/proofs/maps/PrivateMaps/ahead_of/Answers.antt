use Rattle.std.proofs.Common.{ℕ, ◌<◌, ap, ◌∙◌, subst}
use Rattle.cc_ahead.specs.Kept.{ObjectReads, kept_of}
use Rattle.cc_ahead.specs.Request.{request_after}
use Rattle.cc_ahead.proofs.MapSteps.{request_after-is}
use Rattle.cc_ahead.proofs.maps.PrivateMaps.ahead_of.Goals as goal

pub returns-clause-stands : goal.returns-clause-stands
returns-clause-stands c = λ h stands off size.
    let a = c.args in
    let below = subst (λ (n : ℕ). n < 16) c.object.ensures.same c.object.ensures.in_range in
    c.request_after.ensures
    ∙ (ap (λ (kept : ObjectReads). request_after kept a.file a.at a.len a.no_read_ahead a.size) (c.map-map.ensures ∙ ap (kept_of a.self.now) c.object.ensures.same)
    ∙ request_after-is a.self.now h a.file a.at a.len a.no_read_ahead a.size below stands off size)
