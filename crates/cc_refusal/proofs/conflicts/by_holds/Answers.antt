use Rattle.std.proofs.Common.{ap, sym, ◌∙◌}
use Rattle.cc_entry.specs.declared.call.Call.{Call}
use Rattle.cc_model.specs.Conflicts.{held, held_by}
use Rattle.cc_refusal.proofs.conflicts.by_holds.Goals as goal

pub returns-in-SetSizes : goal.returns-in-SetSizes
returns-in-SetSizes c = λ h stands hold.
    c.held_by.ensures ∙ (ap held_by (c.first_past.ensures h hold) ∙ ap (λ (it : Call). held h it) (sym c.in-SetSizes.is))
