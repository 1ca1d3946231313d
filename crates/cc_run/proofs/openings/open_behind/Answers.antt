-- Where the restart of its log was refused a stream's line leaves nothing.
use Rattle.cc_lines.proofs.WordLines.{went-none}
use Rattle.cc_turns.specs.Desk.{standing_of}
use Rattle.cc_run.proofs.Refused.{refused-opens}
use Rattle.cc_run.proofs.openings.open_behind.Goals as goal

pub returns-in-Some-clause-opened : goal.returns-in-Some-clause-opened
returns-in-Some-clause-opened g c =
    refused-opens (standing_of g.D.Told.told g.D.Told.faults g.L.LogFile.told g.L.LogFile.faults c.args.desk.now).setup c.args.number c.args.stream.now c.args.refused
    c.in-Some.error c.args.desk.now.last.entries c.in-Some.is

pub returns-in-Some-clause-goes_on : goal.returns-in-Some-clause-goes_on
returns-in-Some-clause-goes_on g c = went-none (standing_of g.D.Told.told g.D.Told.faults g.L.LogFile.told g.L.LogFile.faults c.args.desk.now)
