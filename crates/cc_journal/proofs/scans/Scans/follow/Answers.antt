use Rattle.cc_journal.proofs.ScanSteps.{scans_none_ran}
use Rattle.cc_journal.proofs.scans.Scans.follow.Goals as goal

pub returns-in_default : goal.returns-in_default
returns-in_default c past looked stands = scans_none_ran c.args.self.now.total c.args.self.now.cursor c.args.entry.now past c.in_default.not-Scan stands
