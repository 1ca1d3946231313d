use Rattle.std.proofs.Common.{◌≡◌, ◌+◌, List, subst, sym, arith}
use Rattle.cc_redo.specs.declared.scan.ReadEntry.{ReadEntry}
use Rattle.cc_redo.specs.Ends.{IsFaultOf, log_faults}
use Rattle.cc_redo.specs.Heard.{from_of}
use Rattle.cc_redo.proofs.Whole.{AreOf, answer-told, each-told, no-log_fault, refused-so}
use Rattle.cc_redo.proofs.streams.restart.Goals as goal

pub returns-clause-leaves : goal.returns-clause-leaves
returns-clause-leaves g c =
    let log = g.L.LogFile.told c.args.log.now in
    let items = c.deref.result.now in
    let are : AreOf log items = subst (λ (l : List ReadEntry). AreOf log l) (sym c.deref.ensures.value) c.in_ok-entries.ensures.read in
    each-told g.D.Told.told g.D.Told.faults c.args.streams.now log items c.redo_entries.result c.args.disks.now c.redo_entries.new.disks are c.redo_entries.ensures.leaves

pub returns-clause-answer : goal.returns-clause-answer
returns-clause-answer g c =
    let log = g.L.LogFile.told c.args.log.now in
    let items = c.deref.result.now in
    let are : AreOf log items = subst (λ (l : List ReadEntry). AreOf log l) (sym c.deref.ensures.value) c.in_ok-entries.ensures.read in
    answer-told c.args.streams.now log items c.redo_entries.result are c.redo_entries.ensures.answer

pub returns-clause-refused : goal.returns-clause-refused
returns-clause-refused g c =
    let log = g.L.LogFile.told c.args.log.now in
    let items = c.deref.result.now in
    let are : AreOf log items = subst (λ (l : List ReadEntry). AreOf log l) (sym c.deref.ensures.value) c.in_ok-entries.ensures.read in
    refused-so g.D.Told.told g.D.Told.faults c.args.streams.now log items c.args.disks.now c.redo_entries.new.disks c.redo_entries.result are c.redo_entries.ensures.refused

pub returns-clause-log_counted : goal.returns-clause-log_counted
returns-clause-log_counted g c =
    let none : log_faults c.redo_entries.result ≡ 0 =
    no-log_fault g.D.Told.faults (IsFaultOf g.D.Told.told (from_of c.args.streams.now c.deref.result.now) c.deref.result.now) c.args.streams.now c.args.disks.now
    c.redo_entries.new.disks c.redo_entries.result c.redo_entries.ensures.refused in
    let same : g.L.LogFile.faults c.read_log.new.log ≡ g.L.LogFile.faults c.args.log.now + 0 = c.in_ok-entries.ensures.counted in
    omega arith
