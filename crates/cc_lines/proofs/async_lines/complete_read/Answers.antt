-- What is answered is what the step answered, and what that left explains it.
use Rattle.cc_lines.proofs.AsyncLines.{completed-answered, completed-full, completed-placed, completed-queue}
use Rattle.cc_lines.proofs.async_lines.complete_read.Goals as goal

pub returns-clause-answered : goal.returns-clause-answered
returns-clause-answered g c = completed-answered (g.T.Turns.standing c.args.turns.now) (g.T.Turns.standing c.async_step.new.turns) c.async_step.result c.async_step.ensures.ends.left

pub returns-clause-full : goal.returns-clause-full
returns-clause-full g c = completed-full (g.T.Turns.standing c.args.turns.now) (g.T.Turns.standing c.async_step.new.turns) c.async_step.result c.async_step.ensures.ends.left

pub returns-clause-goes_on : goal.returns-clause-goes_on
returns-clause-goes_on g c = c.async_step.ensures.ends.goes_on

pub returns-clause-good : goal.returns-clause-good
returns-clause-good g c = c.async_step.ensures.ends.good

pub returns-clause-completed : goal.returns-clause-completed
returns-clause-completed g c = completed-placed c.async_step.result _ _ c.async_step.ensures.ends.taken

pub returns-clause-queue : goal.returns-clause-queue
returns-clause-queue g c = completed-queue c.async_step.result _ _ c.async_step.ensures.ends.taken
