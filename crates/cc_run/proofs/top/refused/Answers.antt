-- Where memory is wanting the status tells that.
use Rattle.std.proofs.Common.{◌∙◌, ap, inl, inr}
use Rattle.cc_command.specs.NoRun.{status_of}
use Rattle.cc_run.proofs.top.refused.Goals as goal

pub returns-clause-status : goal.returns-clause-status
returns-clause-status g c = λ is.
    elim c.put_fault-why.ensures.kept [
      | inl same ↦ c.status.ensures ∙ ap status_of (same ∙ is)
      | inr none ↦ c.status.ensures ∙ ap status_of none
    ]
