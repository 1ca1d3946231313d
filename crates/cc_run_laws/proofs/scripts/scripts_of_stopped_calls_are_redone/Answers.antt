use Rattle.std.specs.Prelude.{◌⊎◌}
use Rattle.std.proofs.Common.{inl, inr}
use Rattle.cc_run_laws.proofs.ScriptLinks.{have-left}
use Rattle.cc_run_laws.proofs.scripts.scripts_of_stopped_calls_are_redone.Goals as goal

-- by one of two
either : {A B C : Type 0} → A ⊎ B → (A → C) → (B → C) → C
either (inl a) f g = f a
either (inr b) f g = g b

pub returns : goal.returns
returns g c = λ s log stream read opening calls was had have call restarted.
    c.any_number_of_stops_is_redone.ensures.file s log stream read opening calls was had
    (have-left g.D.Told.told g.D.Told.faults g.L.LogFile.told g.L.LogFile.faults s log
    (λ one clauses t handle line before disk left begun after is.
    either is.opened
    (λ done. either done.1
    (λ none. c.scripts_of_updates_are_redone.ensures.updates one clauses t handle line before disk left begun after is.leaves is.had done.0 none)
    (λ right. c.scripts_of_updates_are_redone.ensures.checkpoints one clauses t handle line before disk left begun after is.leaves is.had done.0 right))
    (λ kept. c.scripts_of_updates_are_redone.ensures.kept one clauses t handle line before disk left begun after is.leaves is.had kept.0 kept.1 kept.2))
    stream read opening calls was had have) call restarted
