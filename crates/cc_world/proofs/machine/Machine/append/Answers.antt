-- The log of the handle stands, so it may be appended to; with what that leaves of it the World stands.
use Rattle.std.specs.Prelude.{slice_set}
use Rattle.std.proofs.Common.{◌<◌, length, sym, ◌∙◌, subst, arith}
use Rattle.cc_turns.specs.Desk.{tells_of}
use Rattle.cc_world.specs.World.{WorldEventLeft, world_of}
use Rattle.cc_effects.specs.declared.events.Event.TheVariants as event
use Rattle.cc_world.proofs.LogSteps.{log-handle, log-place, log-stands, log-stepped}
use Rattle.cc_world.proofs.Steps.{read-there}
use Rattle.cc_world.proofs.machine.Machine.append.Goals as goal

pub append-reply-requires-clause-handle : goal.append-reply-requires-clause-handle
append-reply-requires-clause-handle g c =
    let within : c.from-2.result < length c.self.inside.logs.items = omega (arith, c.len.ensures, c.from.ensures, c.from-2.ensures, c.if-len-from.false) in
    let there = read-there c.self.inside.logs.items c.from-2.result c.index_mut-log.result.now within c.index_mut-log.ensures.value in
    log-handle _ _ c.self.invariant.0 c.from-2.result c.index_mut-log.result.now there ∙ c.from-2.ensures

pub append-reply-requires-clause-standing : goal.append-reply-requires-clause-standing
append-reply-requires-clause-standing g c =
    let within : c.from-2.result < length c.self.inside.logs.items = omega (arith, c.len.ensures, c.from.ensures, c.from-2.ensures, c.if-len-from.false) in
    let there = read-there c.self.inside.logs.items c.from-2.result c.index_mut-log.result.now within c.index_mut-log.ensures.value in
    (_, _, log-stands _ _ c.self.invariant.0 c.from-2.result c.index_mut-log.result.now there)

pub invariant_of-self : goal.invariant_of-self
invariant_of-self g c =
    let within : c.from-2.result < length c.self.inside.logs.items = omega (arith, c.len.ensures, c.from.ensures, c.from-2.ensures, c.if-len-from.false) in
    let there = read-there c.self.inside.logs.items c.from-2.result c.index_mut-log.result.now within c.index_mut-log.ensures.value in
    let both = log-stepped _ _ c.self.invariant.0 c.from-2.result c.index_mut-log.result.now there (event.Append c.args.pass c.args.handle c.args.bytes) c.append-reply.result c.append-reply.new.log c.append-reply.new.journal c.note_capacity.ensures
    (log-place _ _ c.self.invariant.0 c.from-2.result c.index_mut-log.result.now there c.args.handle (sym c.from-2.ensures)) tt (c.append-reply.ensures _ _ (log-stands _ _ c.self.invariant.0 c.from-2.result c.index_mut-log.result.now there)) in
    (both.0, c.self.invariant.1, c.self.invariant.2)

pub returns : goal.returns
returns g c =
    let within : c.from-2.result < length c.self.inside.logs.items = omega (arith, c.len.ensures, c.from.ensures, c.from-2.ensures, c.if-len-from.false) in
    let there = read-there c.self.inside.logs.items c.from-2.result c.index_mut-log.result.now within c.index_mut-log.ensures.value in
    let both = log-stepped _ _ c.self.invariant.0 c.from-2.result c.index_mut-log.result.now there (event.Append c.args.pass c.args.handle c.args.bytes) c.append-reply.result c.append-reply.new.log c.append-reply.new.journal c.note_capacity.ensures
    (log-place _ _ c.self.invariant.0 c.from-2.result c.index_mut-log.result.now there c.args.handle (sym c.from-2.ensures)) tt (c.append-reply.ensures _ _ (log-stands _ _ c.self.invariant.0 c.from-2.result c.index_mut-log.result.now there)) in
    subst (λ w. WorldEventLeft (tells_of g.D.Told.told g.D.Told.faults g.L.LogFile.told g.L.LogFile.faults g.Q.PostRoutine.posted) (event.Append c.args.pass c.args.handle c.args.bytes) c.append-reply.result w
    (world_of c.self.inside.begun.value c.self.inside.rows.items (slice_set c.self.inside.logs.items c.from-2.result c.append-reply.new.log) c.append-reply.new.journal)) c.self.view_is both.1
