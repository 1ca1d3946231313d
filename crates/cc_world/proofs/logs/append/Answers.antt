-- With a place reserved the log and the journal stand, and what appending then leaves is what the event leaves; without
-- one nothing changed.
use Rattle.std.specs.Prelude.{refl}
use Rattle.cc_journal.specs.Journal.{room_of}
use Rattle.cc_effects.specs.declared.events.Event.TheVariants as event
use Rattle.cc_world.proofs.LogStanding.{log-left, log-reserved, log-unreserved}
use Rattle.cc_world.proofs.Standing.{roomy}
use Rattle.cc_world.proofs.logs.append.Goals as goal

pub append_on-requires-clause-standing : goal.append_on-requires-clause-standing
append_on-requires-clause-standing g c =
    let u = c.requires.standing.0 in
    let first = c.requires.standing.1 in
    let stand = c.requires.standing.2 in
    (u, first, log-reserved 1 g.L.LogFile.told g.L.LogFile.faults u first c.args.log.now c.args.journal.now c.reserve.new.self c.in-Ok.ensures.reserved stand)

pub returns-in-Ok : goal.returns-in-Ok
returns-in-Ok g c u first stand =
    let j = c.args.journal.now in
    log-left 1 g.L.LogFile.told g.L.LogFile.faults u first (event.Append c.args.pass c.args.handle c.args.bytes)
    c.append_on.result c.args.log.now c.append_on.new.log j c.reserve.new.self c.append_on.new.journal
    (roomy (room_of j) 1 _ _ c.in-Ok.ensures.full.1) c.in-Ok.ensures.reserved
    (c.append_on.ensures u first (log-reserved 1 g.L.LogFile.told g.L.LogFile.faults u first c.args.log.now j c.reserve.new.self c.in-Ok.ensures.reserved stand))

pub returns-in-Err : goal.returns-in-Err
returns-in-Err g c u first stand =
    log-unreserved g.L.LogFile.told g.L.LogFile.faults u first (event.Append c.args.pass c.args.handle c.args.bytes) c.args.log.now c.args.journal.now c.reserve.new.self c.in-Err.error
    stand refl refl c.in-Err.ensures.full c.in-Err.ensures.causes c.in-Err.ensures.err
