-- A restart that was refused leaves nothing behind it.
use Rattle.std.proofs.Common.{subst}
use Rattle.cc_lines.proofs.WordLines.{went-none}
use Rattle.cc_restarts.specs.Restarting.{IsOwnRefusal}
use Rattle.cc_turns.specs.Desk.{standing_of}
use Rattle.cc_run.proofs.Refused.{own-not-full, refused-ends}
use Rattle.cc_run.proofs.restarts.end_one.Goals as goal

pub returns-in-Err-clause-ended : goal.returns-in-Err-clause-ended
returns-in-Err-clause-ended g c =
    refused-ends (standing_of g.D.Told.told g.D.Told.faults g.L.LogFile.told g.L.LogFile.faults c.args.desk.now).setup c.args.restart.now.handle c.args.restart.now.ended
    c.in-Err.error c.args.desk.now.last.entries c.in-Err.is

pub returns-in-Err-clause-full : goal.returns-in-Err-clause-full
returns-in-Err-clause-full g c = λ own. own-not-full (standing_of g.D.Told.told g.D.Told.faults g.L.LogFile.told g.L.LogFile.faults c.args.desk.now) c.in-Err.error (subst (λ r. IsOwnRefusal r) c.in-Err.is own)

pub returns-in-Err-clause-goes_on : goal.returns-in-Err-clause-goes_on
returns-in-Err-clause-goes_on g c = went-none (standing_of g.D.Told.told g.D.Told.faults g.L.LogFile.told g.L.LogFile.faults c.args.desk.now)
