use Rattle.std.proofs.Common.{sym, ap, ◌∙◌}
use Rattle.cc_journal.specs.Queue.{routines_of}
use Rattle.cc_journal.proofs.DeferredSteps.{routines_with_routines}
use Rattle.cc_journal.proofs.queue.Deferred.into_writes.Goals as goal

pub returns : goal.returns
returns g c =
    let inside = c.self.inside in
    sym (routines_with_routines inside.deferrals.items inside.routines.items c.self.invariant.0) ∙ ap (λ v. routines_of v.writes) c.self.view_is
