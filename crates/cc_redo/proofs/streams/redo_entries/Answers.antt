use Rattle.std.proofs.Common.{ℕ, subst}
use Rattle.std.specs.Prelude.{IfErr}
use Rattle.cc_redo.specs.Ends.{EachDisk, IsCounted, IsFaultOf, LeavesBy}
use Rattle.cc_redo.specs.Heard.{from_of}
use Rattle.cc_redo.specs.Stages.{IsStageRefusal, PagesDone, RedonePagesLeft}
use Rattle.cc_redo.proofs.Steps.{handed-on}
use Rattle.cc_redo.proofs.Whole.{pages-counted, pages-left, records-counted, records-left, records-made, records-refused, records-same}
use Rattle.cc_redo.proofs.streams.redo_entries.Goals as goal

pub returns-in_err-redo_all-clause-leaves : goal.returns-in_err-redo_all-clause-leaves
returns-in_err-redo_all-clause-leaves g c =
    let told = g.D.Told.told in
    let faults = g.D.Told.faults in
    let streams = c.args.streams.now in
    let items = c.args.entries.now in
    let disks = c.args.disks.now in
    let new = c.redo_all.new.disks in
    let e = c.in_err-redo_all.field-0.0 in
    handed-on (λ answer. EachDisk streams (λ redo was now. LeavesBy streams items answer redo (told was) (told now)) disks new)
    c.from_residual-in_err-redo_all.result e c.from_residual-in_err-redo_all.ensures.1
    (pages-left told faults streams items disks disks new e (subst (λ (from : ℕ). EachDisk streams (RedonePagesLeft told faults from items) disks new) c.first_redone-from.ensures c.in_err-redo_all.ensures.left))

pub returns-in_err-redo_all-clause-refused : goal.returns-in_err-redo_all-clause-refused
returns-in_err-redo_all-clause-refused g c =
    let told = g.D.Told.told in
    let faults = g.D.Told.faults in
    let streams = c.args.streams.now in
    let items = c.args.entries.now in
    let disks = c.args.disks.now in
    let new = c.redo_all.new.disks in
    let e = c.in_err-redo_all.field-0.0 in
    handed-on (λ answer. IfErr answer (IsStageRefusal faults (IsFaultOf told (from_of streams items) items) streams disks new))
    c.from_residual-in_err-redo_all.result e c.from_residual-in_err-redo_all.ensures.1
    (subst (λ (from : ℕ). IsStageRefusal faults (IsFaultOf told from items) streams disks new e) c.first_redone-from.ensures c.in_err-redo_all.ensures.refused)

pub returns-in_err-redo_all-clause-counted : goal.returns-in_err-redo_all-clause-counted
returns-in_err-redo_all-clause-counted g c =
    let told = g.D.Told.told in
    let faults = g.D.Told.faults in
    let streams = c.args.streams.now in
    let items = c.args.entries.now in
    let disks = c.args.disks.now in
    let new = c.redo_all.new.disks in
    let e = c.in_err-redo_all.field-0.0 in
    handed-on (λ answer. EachDisk streams (λ redo was now. IsCounted answer (faults was) (faults now)) disks new)
    c.from_residual-in_err-redo_all.result e c.from_residual-in_err-redo_all.ensures.1
    (pages-counted told faults streams items disks disks new (subst (λ (from : ℕ). EachDisk streams (RedonePagesLeft told faults from items) disks new) c.first_redone-from.ensures c.in_err-redo_all.ensures.left))

pub returns-in_err-settle_all-clause-leaves : goal.returns-in_err-settle_all-clause-leaves
returns-in_err-settle_all-clause-leaves g c =
    let told = g.D.Told.told in
    let faults = g.D.Told.faults in
    let streams = c.args.streams.now in
    let items = c.args.entries.now in
    let disks = c.args.disks.now in
    let here = c.redo_all.new.disks in
    let new = c.settle_all.new.disks in
    let e = c.in_err-settle_all.field-0.0 in
    handed-on (λ answer. EachDisk streams (λ redo was now. LeavesBy streams items answer redo (told was) (told now)) disks new)
    c.from_residual-in_err-settle_all.result e c.from_residual-in_err-settle_all.ensures.1
    (records-left told faults streams items disks here new e
    (subst (λ (from : ℕ). EachDisk streams (PagesDone told faults from items) disks here) c.first_redone-from.ensures c.in_ok-redo_all.ensures.done) c.in_err-settle_all.ensures.left)

pub returns-in_err-settle_all-clause-refused : goal.returns-in_err-settle_all-clause-refused
returns-in_err-settle_all-clause-refused g c =
    let told = g.D.Told.told in
    let faults = g.D.Told.faults in
    let streams = c.args.streams.now in
    let items = c.args.entries.now in
    let disks = c.args.disks.now in
    let here = c.redo_all.new.disks in
    let new = c.settle_all.new.disks in
    let e = c.in_err-settle_all.field-0.0 in
    handed-on (λ answer. IfErr answer (IsStageRefusal faults (IsFaultOf told (from_of streams items) items) streams disks new))
    c.from_residual-in_err-settle_all.result e c.from_residual-in_err-settle_all.ensures.1
    (records-refused told faults streams items disks here new e
    (subst (λ (from : ℕ). EachDisk streams (PagesDone told faults from items) disks here) c.first_redone-from.ensures c.in_ok-redo_all.ensures.done) c.in_err-settle_all.ensures.left
    c.in_err-settle_all.ensures.refused)

pub returns-in_err-settle_all-clause-counted : goal.returns-in_err-settle_all-clause-counted
returns-in_err-settle_all-clause-counted g c =
    let told = g.D.Told.told in
    let faults = g.D.Told.faults in
    let streams = c.args.streams.now in
    let items = c.args.entries.now in
    let disks = c.args.disks.now in
    let here = c.redo_all.new.disks in
    let new = c.settle_all.new.disks in
    let e = c.in_err-settle_all.field-0.0 in
    handed-on (λ answer. EachDisk streams (λ redo was now. IsCounted answer (faults was) (faults now)) disks new)
    c.from_residual-in_err-settle_all.result e c.from_residual-in_err-settle_all.ensures.1
    (records-counted told faults streams items disks here new
    (subst (λ (from : ℕ). EachDisk streams (PagesDone told faults from items) disks here) c.first_redone-from.ensures c.in_ok-redo_all.ensures.done) c.in_err-settle_all.ensures.left)

pub returns-clause-leaves : goal.returns-clause-leaves
returns-clause-leaves g c =
    let told = g.D.Told.told in
    let faults = g.D.Told.faults in
    let streams = c.args.streams.now in
    let items = c.args.entries.now in
    let disks = c.args.disks.now in
    let here = c.redo_all.new.disks in
    let new = c.settle_all.new.disks in
    records-made told faults streams items disks here new c.in_ok-done.done
    (subst (λ (from : ℕ). EachDisk streams (PagesDone told faults from items) disks here) c.first_redone-from.ensures c.in_ok-redo_all.ensures.done) c.in_ok-settle_all.ensures.done

pub returns-clause-counted : goal.returns-clause-counted
returns-clause-counted g c =
    let told = g.D.Told.told in
    let faults = g.D.Told.faults in
    let streams = c.args.streams.now in
    let items = c.args.entries.now in
    let disks = c.args.disks.now in
    let here = c.redo_all.new.disks in
    let new = c.settle_all.new.disks in
    records-same told faults streams items disks here new
    (subst (λ (from : ℕ). EachDisk streams (PagesDone told faults from items) disks here) c.first_redone-from.ensures c.in_ok-redo_all.ensures.done) c.in_ok-settle_all.ensures.done
