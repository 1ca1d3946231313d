use Rattle.std.proofs.Common.{◌≡◌, ◌≤◌, arith}
use Rattle.std.specs.Prelude.{IfErr, OnErr}
use Rattle.std.proofs.Math.ListN.{get_or, set}
use Rattle.cc_redo.specs.Ends.{EachDisk}
use Rattle.cc_redo.specs.Stages.{IsRecordFault, IsStageRefusal, RecordDone, RedoneRecordLeft}
use Rattle.cc_redo.proofs.Disking.{reached-all}
use Rattle.cc_redo.proofs.Settling.{record-done, record-itself, record-left, record-weaker, settle-fault}
use Rattle.cc_redo.proofs.Steps.{goes-on, handed-on, refuses, stops}
use Rattle.cc_redo.proofs.streams.settle_all.Goals as goal

pub returns-in_err-settle_record-clause-left : goal.returns-in_err-settle_record-clause-left
returns-in_err-settle_record-clause-left g c =
    let told = g.D.Told.told in
    let faults = g.D.Told.faults in
    let items = c.args.entries.now in
    let redo = c.redo-item.result in
    let one = c.index-disks-redo.result in
    let here = get_or c.loop-redo.disks redo.disk one in
    let next = c.settle_record.new.disk in
    let count : faults here ≤ faults next = let counted = c.in_err-settle_record.ensures.counted in omega arith in
    handed-on (λ answer. OnErr answer (EachDisk c.args.streams.now (RedoneRecordLeft told faults items) c.args.disks.now (set c.loop-redo.disks redo.disk next)))
    c.from_residual.result c.in_err-settle_record.field-0.0 c.from_residual.ensures.1
    (stops c.args.streams.now c.loop-redo.redo-index (RecordDone told faults items) c.args.disks.now c.loop-redo.disks redo one next
    (record { differ = c.requires.differ; disks = c.requires.disks; below = c.loop-redo-test.true; redo_is = c.redo-item.is; reached = c.loop-redo.invariant })
    (RedoneRecordLeft told faults items) (λ r was is done. record-weaker told faults items r was is done) (λ r d. record-itself told faults items r d)
    (record-left told faults items redo here next c.valid_length-valid.result c.valid_length-valid.ensures.valid c.settle_record.ensures.settling count))

pub returns-in_err-settle_record-clause-refused : goal.returns-in_err-settle_record-clause-refused
returns-in_err-settle_record-clause-refused g c =
    let told = g.D.Told.told in
    let faults = g.D.Told.faults in
    let items = c.args.entries.now in
    let redo = c.redo-item.result in
    let one = c.index-disks-redo.result in
    let here = get_or c.loop-redo.disks redo.disk one in
    let next = c.settle_record.new.disk in
    let e = c.in_err-settle_record.field-0.0 in
    handed-on (λ answer. IfErr answer (IsStageRefusal faults (IsRecordFault told) c.args.streams.now c.args.disks.now (set c.loop-redo.disks redo.disk next)))
    c.from_residual.result e c.from_residual.ensures.1
    (refuses c.args.streams.now c.loop-redo.redo-index (RecordDone told faults items) c.args.disks.now c.loop-redo.disks redo one next
    (record { differ = c.requires.differ; disks = c.requires.disks; below = c.loop-redo-test.true; redo_is = c.redo-item.is; reached = c.loop-redo.invariant })
    faults (IsRecordFault told) e (settle-fault told redo here next e c.in_err-settle_record.ensures.refused) c.in_err-settle_record.ensures.counted)

pub loop-redo-preserved : goal.loop-redo-preserved
loop-redo-preserved g c =
    let told = g.D.Told.told in
    let faults = g.D.Told.faults in
    let items = c.args.entries.now in
    let redo = c.redo-item.result in
    let one = c.index-disks-redo.result in
    let here = get_or c.loop-redo.disks redo.disk one in
    let next = c.settle_record.new.disk in
    let count : faults next ≡ faults here = let counted = c.in_ok-settle_record.ensures.counted in omega arith in
    goes-on c.args.streams.now c.loop-redo.redo-index (RecordDone told faults items) c.args.disks.now c.loop-redo.disks redo one next
    (record { differ = c.requires.differ; disks = c.requires.disks; below = c.loop-redo-test.true; redo_is = c.redo-item.is; reached = c.loop-redo.invariant })
    (record-done told faults items redo here next c.valid_length-valid.result c.valid_length-valid.ensures.valid c.in_ok-settle_record.ensures.settled count)

pub returns-clause-done : goal.returns-clause-done
returns-clause-done g c =
    reached-all c.args.streams.now c.loop-redo.redo-index (RecordDone g.D.Told.told g.D.Told.faults c.args.entries.now) c.args.disks.now c.loop-redo.disks c.loop-redo-test.false c.loop-redo.invariant
