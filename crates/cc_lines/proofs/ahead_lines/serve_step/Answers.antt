-- What is answered is what the step answered, and what that left explains it.
use Rattle.cc_lines.proofs.AheadLines.{step-at, step-full}
use Rattle.cc_lines.proofs.ahead_lines.serve_step.Goals as goal

pub returns-clause-stepped : goal.returns-clause-stepped
returns-clause-stepped g c = rw c.stepped.ensures (step-at _ _ c.read_ahead_step.result _ _ c.read_ahead_step.ensures.ends)

pub returns-clause-full : goal.returns-clause-full
returns-clause-full g c =
    rw c.stepped.ensures (step-full _ _ c.read_ahead_step.ensures.ends.taken c.read_ahead_step.result c.read_ahead_step.ensures.ends.left c.read_ahead_step.ensures.ends.full)

pub returns-clause-goes_on : goal.returns-clause-goes_on
returns-clause-goes_on g c = c.read_ahead_step.ensures.ends.goes_on

pub returns-clause-good : goal.returns-clause-good
returns-clause-good g c = c.read_ahead_step.ensures.ends.good
