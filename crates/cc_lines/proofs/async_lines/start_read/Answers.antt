-- What is answered is what the call answered, and what that left explains it.
use Rattle.cc_lines.proofs.AsyncLines.{start-answered, start-full, start-placed, start-queue}
use Rattle.cc_lines.proofs.WordLines.{went-on}
use Rattle.cc_lines.proofs.async_lines.start_read.Goals as goal

pub returns-clause-answered : goal.returns-clause-answered
returns-clause-answered g c = rw c.started.ensures (start-answered _ _ c.args.file c.args.at c.args.len c.async_read.result _ _ c.async_read.ensures.ends.left)

pub returns-clause-full : goal.returns-clause-full
returns-clause-full g c = rw c.started.ensures (start-full c.args.file c.args.at c.args.len (g.T.Turns.standing c.args.turns.now) (g.T.Turns.standing c.async_read.new.turns) c.async_read.result c.async_read.ensures.ends.full)

pub returns-clause-goes_on : goal.returns-clause-goes_on
returns-clause-goes_on g c = went-on _ _ c.async_read.ensures.ends.goes_on

pub returns-clause-good : goal.returns-clause-good
returns-clause-good g c = c.async_read.ensures.ends.good

pub returns-clause-started : goal.returns-clause-started
returns-clause-started g c = rw c.started.ensures (start-placed _ c.args.file c.args.at c.args.len c.async_read.result _ _ c.async_read.ensures.ends.started)

pub returns-clause-queue : goal.returns-clause-queue
returns-clause-queue g c = start-queue _ c.args.file c.args.at c.args.len c.async_read.result _ _ c.async_read.ensures.ends.started
