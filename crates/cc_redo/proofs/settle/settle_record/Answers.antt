use Rattle.cc_model.specs.Records.{record_page}
use Rattle.cc_redo.proofs.Writes.{settling-end}
use Rattle.cc_redo.proofs.settle.settle_record.Goals as goal

pub returns-clause-settling : goal.returns-clause-settling
returns-clause-settling g c =
    settling-end (record_page c.args.size c.args.valid) c.sync-2.result (g.D.Told.told c.args.disk.now) (g.D.Told.told c.sync.new.disk)
    (g.D.Told.told c.write_told.new.disk) (g.D.Told.told c.sync-2.new.disk)
    c.in_ok-sync.ensures.settled c.in_ok-write_told.ensures.wrote c.sync-2.ensures.settled c.sync-2.ensures.err
