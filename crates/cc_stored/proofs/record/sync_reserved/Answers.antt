-- The disk stands for what is seen with the sync, whose entry is placed.
use Rattle.std.specs.Prelude.{Result}
use Rattle.std.proofs.Common.{sym, subst}
use Rattle.cc_entry.specs.declared.error.CcError.{CcError}
use Rattle.cc_stored.specs.Settle.{SyncLeft}
use Rattle.cc_stored.proofs.Written.{disk_synced, left_synced}
use Rattle.cc_stored.proofs.record.sync_reserved.Goals as goal

pub returns-clause-disk : goal.returns-clause-disk
returns-clause-disk g c =
    let w = g.T.Turns.standing c.args.turns.now in
    let x = g.T.Turns.standing c.place_held.new.turns in
    disk_synced g.T.Disk.Told.told g.T.Disk.Told.faults w x c.args.stream c.sync-how.result c.args.disk.now c.sync-how.new.disk c.requires.disk c.place_held.ensures.went
    (rw c.me-pass.ensures at c.place_held.ensures.placed) c.sync-how.ensures.ended

pub returns-clause-left : goal.returns-clause-left
returns-clause-left g c =
    let w = g.T.Turns.standing c.args.turns.now in
    let x = g.T.Turns.standing c.place_held.new.turns in
    subst (λ (r : Result (Unit {0}) CcError). SyncLeft w.number c.args.stream r w.seen x.seen) (sym c.synced.ensures)
    (left_synced g.T.Disk.Told.told g.T.Disk.Told.faults w x c.args.stream c.sync-how.result c.args.disk.now c.sync-how.new.disk c.requires.disk c.place_held.ensures.went
    (rw c.me-pass.ensures at c.place_held.ensures.placed) c.sync-how.ensures.ended)
