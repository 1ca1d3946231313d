-- The disk stands while others go on, before a place is reserved and after.
use Rattle.std.specs.Prelude.{suc, Option}
use Rattle.std.proofs.Common.{refl}
use Rattle.cc_format.specs.declared.record.StreamRecord.{StreamRecord}
use Rattle.cc_stored.proofs.Unread.{idle-rest, idle-stands, none-more, reserved-left}
use Rattle.cc_stored.proofs.load.load_held.Goals as goal

pub load_reserved-requires-clause-rest : goal.load_reserved-requires-clause-rest
load_reserved-requires-clause-rest g c =
    let w = g.T.Turns.standing c.args.turns.now in
    let x = g.T.Turns.standing c.reserve_one.new.turns in
    idle-rest g.T.Disk.Told.told g.T.Disk.Told.faults w x c.args.stream (suc w.in_flight) c.args.disk.now c.args.disk.now c.requires.held c.requires.rest c.requires.stands c.in-Ok.ensures.left
    c.reserve_one.ensures.grows

pub load_reserved-requires-clause-stands : goal.load_reserved-requires-clause-stands
load_reserved-requires-clause-stands g c =
    let w = g.T.Turns.standing c.args.turns.now in
    let x = g.T.Turns.standing c.reserve_one.new.turns in
    idle-stands g.T.Disk.Told.told g.T.Disk.Told.faults w x c.args.stream (suc w.in_flight) c.args.disk.now c.args.disk.now c.requires.held c.requires.rest c.requires.stands c.in-Ok.ensures.left
    0 c.reserve_one.ensures.grows refl (none-more (g.T.Disk.Told.faults c.args.disk.now))

pub returns-in-Ok-clause-left : goal.returns-in-Ok-clause-left
returns-in-Ok-clause-left g c =
    let w = g.T.Turns.standing c.args.turns.now in
    let x = g.T.Turns.standing c.reserve_one.new.turns in
    reserved-left (Option StreamRecord) w x (g.T.Turns.standing c.load_reserved.new.turns) c.args.stream (suc w.in_flight) c.load_reserved.result c.in-Ok.ensures.left
    c.reserve_one.ensures.grows c.load_reserved.ensures.left

pub returns-in-Err-clause-stands : goal.returns-in-Err-clause-stands
returns-in-Err-clause-stands g c =
    let w = g.T.Turns.standing c.args.turns.now in
    let x = g.T.Turns.standing c.reserve_one.new.turns in
    idle-stands g.T.Disk.Told.told g.T.Disk.Told.faults w x c.args.stream w.in_flight c.args.disk.now c.args.disk.now c.requires.held c.requires.rest c.requires.stands c.in-Err.ensures.left.1
    0 c.reserve_one.ensures.grows refl (none-more (g.T.Disk.Told.faults c.args.disk.now))

pub returns-in-Err-clause-rest : goal.returns-in-Err-clause-rest
returns-in-Err-clause-rest g c =
    let w = g.T.Turns.standing c.args.turns.now in
    let x = g.T.Turns.standing c.reserve_one.new.turns in
    idle-rest g.T.Disk.Told.told g.T.Disk.Told.faults w x c.args.stream w.in_flight c.args.disk.now c.args.disk.now c.requires.held c.requires.rest c.requires.stands c.in-Err.ensures.left.1
    c.reserve_one.ensures.grows
