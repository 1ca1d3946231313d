use Rattle.std.specs.Prelude.{◌∷◌, ◌++◌}
use Rattle.cc_entry.specs.declared.entry.Entry.TheVariants as entry
use Rattle.cc_turns.proofs.OpenTransfers.{IsUnderWay-begun, IsUnderWay-grown}
use Rattle.cc_turns.proofs.PageWritten.{DiskStands-ended}
use Rattle.cc_turns.proofs.transfers.transfer.Goals as goal

pub returns-clause-under_way : goal.returns-clause-under_way
returns-clause-under_way g c first past pass s way =
    rw c.end_of.ensures
    (DiskStands-ended g.D.Told.told g.D.Told.faults first past pass s c.args.page c.args.bytes.now c.write_page.result c.args.disk.now c.write_page.new.self c.write_page.ensures.wrote c.write_page.ensures.failed c.write_page.ensures.no_memory c.write_page.ensures.counted way)

-- what a transfer leaves that was under way, from its begin on
pub returns-clause-ended : goal.returns-clause-ended
returns-clause-ended g c first before later s pass can quiet =
    let begun = entry.WriteBegin pass (record { stream = s; page = c.args.page }) ∷ before in
    returns-clause-under_way g c first (later ++ begun) pass s
    (IsUnderWay-grown g.D.Told.told g.D.Told.faults first later begun pass s c.args.page c.args.bytes.now c.args.disk.now quiet
    (IsUnderWay-begun g.D.Told.told g.D.Told.faults first before pass s c.args.page c.args.bytes.now c.args.disk.now can))
