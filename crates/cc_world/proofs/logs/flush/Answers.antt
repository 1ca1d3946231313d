-- A log that was flushed so far asks nothing; else, with a place reserved, what flushing then leaves is what the event
-- leaves, and without one nothing changed.
use Rattle.std.specs.Prelude.{ℕ, ◌<◌, ◌≤◌, refl}
use Rattle.std.proofs.Common.{ap, arith, subst, sym}
use Rattle.cc_journal.specs.Journal.{room_of}
use Rattle.cc_model.specs.Logs.{flushed_to}
use Rattle.cc_effects.specs.declared.events.Event.TheVariants as event
use Rattle.cc_world.proofs.LogStanding.{flush-asks-one, flush-nothing, log-left, log-reserved, log-unreserved, not-flushed}
use Rattle.cc_world.proofs.Standing.{roomy}
use Rattle.cc_world.proofs.logs.flush.Goals as goal

pub returns-then-number-flushed : goal.returns-then-number-flushed
returns-then-number-flushed g c u first stand =
    let least : c.args.to ≤ c.args.log.now.flushed = omega arith in
    flush-nothing g.L.LogFile.told g.L.LogFile.faults u first c.args.log.now c.args.journal.now c.args.pass c.args.handle c.args.to stand c.requires.handle least

pub flush_on-requires-clause-standing : goal.flush_on-requires-clause-standing
flush_on-requires-clause-standing g c =
    let u = c.requires.standing.0 in
    let first = c.requires.standing.1 in
    let stand = c.requires.standing.2 in
    let j = c.args.journal.now in
    let less : c.args.log.now.flushed < c.args.to = omega arith in (
      (u, first, log-reserved 1 g.L.LogFile.told g.L.LogFile.faults u first c.args.log.now j c.reserve.new.self c.in-Ok.ensures.reserved stand),
      subst (λ past. flushed_to past c.args.handle < c.args.to) (sym (ap (λ x. x.entries) c.in-Ok.ensures.reserved))
          (not-flushed g.L.LogFile.told g.L.LogFile.faults u first c.args.log.now j c.args.handle c.args.to stand c.requires.handle less),
    )

pub returns-in-Ok : goal.returns-in-Ok
returns-in-Ok g c u first stand =
    let j = c.args.journal.now in
    let less : c.args.log.now.flushed < c.args.to = omega arith in
    log-left 1 g.L.LogFile.told g.L.LogFile.faults u first (event.LogFlush c.args.pass c.args.handle c.args.to)
    c.flush_on.result c.args.log.now c.flush_on.new.log j c.reserve.new.self c.flush_on.new.journal
    (subst (λ (n : ℕ). n ≤ room_of j) (sym (flush-asks-one g.row.Q.Denot u j.entries c.args.pass c.args.handle c.args.to (not-flushed g.L.LogFile.told g.L.LogFile.faults u first c.args.log.now j c.args.handle c.args.to stand c.requires.handle less)))
    (roomy (room_of j) 1 _ _ c.in-Ok.ensures.full.1)) c.in-Ok.ensures.reserved
    (c.flush_on.ensures u first (log-reserved 1 g.L.LogFile.told g.L.LogFile.faults u first c.args.log.now j c.reserve.new.self c.in-Ok.ensures.reserved stand))

pub returns-in-Err : goal.returns-in-Err
returns-in-Err g c u first stand =
    let j = c.args.journal.now in
    let less : c.args.log.now.flushed < c.args.to = omega arith in
    log-unreserved g.L.LogFile.told g.L.LogFile.faults u first (event.LogFlush c.args.pass c.args.handle c.args.to) c.args.log.now j c.reserve.new.self c.in-Err.error
    stand
    (flush-asks-one g.row.Q.Denot u j.entries c.args.pass c.args.handle c.args.to (not-flushed g.L.LogFile.told g.L.LogFile.faults u first c.args.log.now j c.args.handle c.args.to stand c.requires.handle less))
    refl c.in-Err.ensures.full c.in-Err.ensures.causes c.in-Err.ensures.err
