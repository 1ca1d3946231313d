use Rattle.std.proofs.Common.{refl, subst, ap, ◌∙◌}
use Rattle.cc_turns.specs.Crash.{IsCrashSafe}
use Rattle.cc_turns.specs.Desk.{tells_of}
use Rattle.cc_turns.proofs.CrashSafe.{desk_safe}
use Rattle.cc_turns.proofs.desk.Desk.crash_safe.Goals as goal

pub returns : goal.returns
returns g c =
    subst (λ d. IsCrashSafe (tells_of g.D.Told.told g.D.Told.faults g.L.LogFile.told g.L.LogFile.faults g.Q.PostRoutine.posted) d) c.self.view_is
    (desk_safe _ _ c.self.inside.disks.items _ c.self.inside.logs.items _ (ap (λ d. d.held) c.self.view_is ∙ c.requires) refl refl c.self.invariant.0)
