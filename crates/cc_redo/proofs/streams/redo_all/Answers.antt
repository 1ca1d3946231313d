use Rattle.std.proofs.Common.{◌≡◌, ◌≤◌, arith}
use Rattle.std.specs.Prelude.{IfErr, OnErr}
use Rattle.std.proofs.Math.ListN.{get_or, set}
use Rattle.cc_redo.specs.Ends.{EachDisk, IsFaultOf}
use Rattle.cc_redo.specs.Stages.{IsStageRefusal, PagesDone, RedonePagesLeft}
use Rattle.cc_redo.proofs.Disking.{reached-all}
use Rattle.cc_redo.proofs.Settling.{pages-fault, pages-itself, pages-weaker}
use Rattle.cc_redo.proofs.Steps.{goes-on, handed-on, refuses, stops}
use Rattle.cc_redo.proofs.streams.redo_all.Goals as goal

pub returns-in_err-redo_pages-clause-left : goal.returns-in_err-redo_pages-clause-left
returns-in_err-redo_pages-clause-left g c =
    let told = g.D.Told.told in
    let faults = g.D.Told.faults in
    let items = c.args.entries.now in
    let from = c.args.from in
    let redo = c.redo-item.result in
    let one = c.index-disks-redo.result in
    let here = get_or c.loop-redo.disks redo.disk one in
    let next = c.redo_pages.new.disk in
    let count : faults here ≤ faults next = let counted = c.in_err-redo_pages.ensures.counted in omega arith in
    handed-on (λ answer. OnErr answer (EachDisk c.args.streams.now (RedonePagesLeft told faults from items) c.args.disks.now (set c.loop-redo.disks redo.disk next)))
    c.from_residual.result c.in_err-redo_pages.field-0.0 c.from_residual.ensures.1
    (stops c.args.streams.now c.loop-redo.redo-index (PagesDone told faults from items) c.args.disks.now c.loop-redo.disks redo one next
    (record { differ = c.requires.differ; disks = c.requires.disks; below = c.loop-redo-test.true; redo_is = c.redo-item.is; reached = c.loop-redo.invariant })
    (RedonePagesLeft told faults from items) (λ r was is done. pages-weaker told faults items from r was is done) (λ r d. pages-itself told faults items from r d)
    (record { writing = c.redo_pages.ensures.writing; counted = count }))

pub returns-in_err-redo_pages-clause-refused : goal.returns-in_err-redo_pages-clause-refused
returns-in_err-redo_pages-clause-refused g c =
    let told = g.D.Told.told in
    let faults = g.D.Told.faults in
    let items = c.args.entries.now in
    let from = c.args.from in
    let redo = c.redo-item.result in
    let one = c.index-disks-redo.result in
    let here = get_or c.loop-redo.disks redo.disk one in
    let next = c.redo_pages.new.disk in
    let e = c.in_err-redo_pages.field-0.0 in
    handed-on (λ answer. IfErr answer (IsStageRefusal faults (IsFaultOf told from items) c.args.streams.now c.args.disks.now (set c.loop-redo.disks redo.disk next)))
    c.from_residual.result e c.from_residual.ensures.1
    (refuses c.args.streams.now c.loop-redo.redo-index (PagesDone told faults from items) c.args.disks.now c.loop-redo.disks redo one next
    (record { differ = c.requires.differ; disks = c.requires.disks; below = c.loop-redo-test.true; redo_is = c.redo-item.is; reached = c.loop-redo.invariant })
    faults (IsFaultOf told from items) e (pages-fault told from items redo here next e c.redo_pages.ensures.writing c.in_err-redo_pages.ensures.refused)
    c.in_err-redo_pages.ensures.counted)

pub loop-redo-preserved : goal.loop-redo-preserved
loop-redo-preserved g c =
    let told = g.D.Told.told in
    let faults = g.D.Told.faults in
    let items = c.args.entries.now in
    let from = c.args.from in
    let redo = c.redo-item.result in
    let one = c.index-disks-redo.result in
    let here = get_or c.loop-redo.disks redo.disk one in
    let next = c.redo_pages.new.disk in
    let count : faults next ≡ faults here = let counted = c.in_ok-redo_pages.ensures.counted in omega arith in
    goes-on c.args.streams.now c.loop-redo.redo-index (PagesDone told faults from items) c.args.disks.now c.loop-redo.disks redo one next
    (record { differ = c.requires.differ; disks = c.requires.disks; below = c.loop-redo-test.true; redo_is = c.redo-item.is; reached = c.loop-redo.invariant })
    (record { writing = c.redo_pages.ensures.writing; holds = c.in_ok-redo_pages.ensures.written; counted = count })

pub returns-clause-done : goal.returns-clause-done
returns-clause-done g c =
    reached-all c.args.streams.now c.loop-redo.redo-index (PagesDone g.D.Told.told g.D.Told.faults c.args.from c.args.entries.now) c.args.disks.now c.loop-redo.disks c.loop-redo-test.false c.loop-redo.invariant
