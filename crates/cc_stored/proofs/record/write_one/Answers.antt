-- The disk stands, and the lengths may be told, while others go on before a place is reserved.
use Rattle.std.specs.Prelude.{ℕ, suc}
use Rattle.std.proofs.Common.{ap, subst}
use Rattle.cc_turns.specs.Standing.{Standing, TurnsHeld}
use Rattle.cc_stored.specs.Settle.{RecordWriteLeft}
use Rattle.cc_stored.proofs.Written.{disk-on, grows-idle, tells-on, write-before}
use Rattle.cc_stored.proofs.record.write_one.Goals as goal

pub write_reserved-requires-clause-disk : goal.write_reserved-requires-clause-disk
write_reserved-requires-clause-disk g c =
    let w = g.T.Turns.standing c.args.turns.now in
    let x = g.T.Turns.standing c.reserve_one.new.turns in
    disk-on g.T.Disk.Told.told g.T.Disk.Told.faults (suc w.in_flight) c.args.stream w x c.args.disk.now c.requires.disk c.in-Ok.ensures.left c.reserve_one.ensures.grows

pub write_reserved-requires-clause-tells : goal.write_reserved-requires-clause-tells
write_reserved-requires-clause-tells g c =
    let w = g.T.Turns.standing c.args.turns.now in
    let x = g.T.Turns.standing c.reserve_one.new.turns in
    tells-on (suc w.in_flight) c.args.stream c.args.first w x (ap (λ (h : TurnsHeld). h.device) c.requires.disk.held) c.in-Ok.ensures.left c.reserve_one.ensures.grows c.requires.tells

pub returns-in-Ok-clause-left : goal.returns-in-Ok-clause-left
returns-in-Ok-clause-left g c =
    let w = g.T.Turns.standing c.args.turns.now in
    let x = g.T.Turns.standing c.reserve_one.new.turns in
    let z = g.T.Turns.standing c.write_reserved.new.turns in
    write-before w.number c.args.stream c.args.first c.write_reserved.result w.seen x.seen z.seen (grows-idle w x.seen c.reserve_one.ensures.grows)
    (subst (λ (n : ℕ). RecordWriteLeft n c.args.stream c.args.first c.write_reserved.result x.seen z.seen) (ap (λ (a : Standing). a.number) c.in-Ok.ensures.left.same) c.write_reserved.ensures.left)

pub returns-in-Err-clause-disk : goal.returns-in-Err-clause-disk
returns-in-Err-clause-disk g c =
    let w = g.T.Turns.standing c.args.turns.now in
    let x = g.T.Turns.standing c.reserve_one.new.turns in
    disk-on g.T.Disk.Told.told g.T.Disk.Told.faults w.in_flight c.args.stream w x c.args.disk.now c.requires.disk c.in-Err.ensures.left.1 c.reserve_one.ensures.grows
