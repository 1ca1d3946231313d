use Rattle.cc_world.proofs.FaultLeft.{row-failing, row-left}
use Rattle.cc_world.proofs.rows.StreamRow.fail_call.Goals as goal

pub returns : goal.returns
returns g c u first stand =
    let told = g.D.Told.told in
    let faults = g.D.Told.faults in
    row-left told faults u first c.args.self.now c.args.journal.now stand c.args.pass c.args.call c.fail_on.result c.fail_on.new.book c.fail_on.new.journal
    (c.fail_on.ensures u (row-failing told faults u first c.args.self.now c.args.journal.now stand c.args.call c.requires.filed))
