use Rattle.cc_turns.proofs.PageRead.{IsReadFrom-read, DiskStands-failed}
use Rattle.cc_turns.proofs.transfers.read.Goals as goal

pub returns-clause-found : goal.returns-clause-found
returns-clause-found g c =
    IsReadFrom-read g.D.Told.told g.D.Told.faults c.args.page c.read_page.new.out c.read_page.result c.args.disk.now c.read_page.ensures.found

pub returns-clause-failed : goal.returns-clause-failed
returns-clause-failed g c =
    DiskStands-failed g.D.Told.told g.D.Told.faults c.args.page c.read_page.result c.args.disk.now c.read_page.new.self c.read_page.ensures.stays c.read_page.ensures.counted
