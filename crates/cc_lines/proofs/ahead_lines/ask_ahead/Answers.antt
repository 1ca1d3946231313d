-- What is answered is what the call answered, and what that left explains it.
use Rattle.std.proofs.Common.{arith}
use Rattle.cc_lines.proofs.AheadLines.{ask-answered, ask-full, ask-placed, ask-queue}
use Rattle.cc_lines.proofs.WordLines.{went-on}
use Rattle.cc_lines.proofs.ahead_lines.ask_ahead.Goals as goal

pub returns-clause-answered : goal.returns-clause-answered
returns-clause-answered g c =
    rw c.asked.ensures (ask-answered _ _ c.args.file c.args.at c.args.len c.schedule_read_ahead.result _ _ c.schedule_read_ahead.ensures.ends.left)

pub returns-clause-full : goal.returns-clause-full
returns-clause-full g c = rw c.asked.ensures (ask-full _ _ c.schedule_read_ahead.result (omega arith) c.schedule_read_ahead.ensures.ends.full)

pub returns-clause-goes_on : goal.returns-clause-goes_on
returns-clause-goes_on g c = went-on _ _ c.schedule_read_ahead.ensures.ends.goes_on

pub returns-clause-good : goal.returns-clause-good
returns-clause-good g c = c.schedule_read_ahead.ensures.ends.good

pub returns-clause-asked : goal.returns-clause-asked
returns-clause-asked g c = rw c.asked.ensures (ask-placed c.schedule_read_ahead.result _ _ c.schedule_read_ahead.ensures.asked)

pub returns-clause-queue : goal.returns-clause-queue
returns-clause-queue g c = ask-queue c.schedule_read_ahead.result _ _ c.schedule_read_ahead.ensures.asked
