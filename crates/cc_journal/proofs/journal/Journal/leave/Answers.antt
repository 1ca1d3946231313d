use Rattle.std.proofs.Common.{ℕ, map, ap, ◌∙◌}
use Rattle.cc_entry.specs.declared.hold.Deferral.{Deferral}
use Rattle.cc_model.specs.Throttle.{queue}
use Rattle.cc_journal.proofs.DeferredSteps.{ids_same}
use Rattle.cc_journal.proofs.journal.Journal.leave.Goals as goal

pub returns-clause-ids : goal.returns-clause-ids
returns-clause-ids g c =
    ap (map (λ (w : ℕ × g.row.Q.Denot). w.0)) c.into_writes.ensures
    ∙ ids_same c.self.inside.waiting.writes
    ∙ ap (map (λ (d : Deferral). d.id)) c.self.invariant.0.queue.0
    ∙ ap (λ j. map (λ (d : Deferral). d.id) (queue j.entries)) c.self.view_is
