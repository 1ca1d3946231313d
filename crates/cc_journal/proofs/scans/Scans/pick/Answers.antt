use Rattle.std.proofs.Common.{◌∙◌}
use Rattle.cc_journal.proofs.ScanSteps.{scans_pick}
use Rattle.cc_journal.proofs.scans.Scans.pick.Goals as goal

pub returns : goal.returns
returns c u past limit are stood =
    let now = c.args.self.now in
    scans_pick u past c.args.threshold c.pick_count-most.result now.total now.cursor c.args.pages.now c.from_vec.result
    limit are stood c.pick_count-most.ensures (c.from_vec.ensures ∙ c.in_ok-picked.ensures)
