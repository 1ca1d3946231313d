use Rattle.std.specs.Prelude.{◌++◌}
use Rattle.std.proofs.Common.{ap, subst, sym, ◌∙◌}
use Rattle.cc_pieces.specs.Steps.{RoutinesLeft}
use Rattle.cc_event_lines.specs.Routines.{all_back, deferrals_of_slots, here}
use Rattle.cc_event_lines.proofs.RoutineEnds.{posts-left}
use Rattle.cc_event_lines.proofs.run.StepsRun.end.Goals as goal

pub returns-clause-posts : goal.returns-clause-posts
returns-clause-posts g c =
    let run = c.self.inside in
    let ended = ap (λ backs. here (all_back backs run.routines.slots) ++ run.routines.unused) c.end-disks.ensures.routines in
    subst (λ r. RoutinesLeft g.Q.PostRoutine.posted r.deferrals r.world.journal.entries r.posts c.end.result.items) c.self.view_is
    (subst (λ items. RoutinesLeft g.Q.PostRoutine.posted (deferrals_of_slots run.routines.slots) run.world.journal.entries run.routines.handed items)
    (sym (c.end.ensures ∙ ended))
    (posts-left g.Q.PostRoutine.posted run.world.journal.entries run.world.journal.queue run.routines c.self.invariant))
