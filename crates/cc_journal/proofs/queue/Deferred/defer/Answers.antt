-- Deferrals and routines are as many, with room for one more; by `retrying` both grow at the head or at the tail.
use Rattle.std.specs.Prelude.{◌+◌, length}
use Rattle.std.proofs.Common.{ap, arith}
use Rattle.cc_journal.proofs.DeferredSteps.{stands_defer, unposted_defer, writes_defer, same_length, length_with_routines}
use Rattle.cc_journal.proofs.queue.Deferred.defer.Goals as goal

pub insert_reserved-requires-clause-room : goal.insert_reserved-requires-clause-room
insert_reserved-requires-clause-room g c =
    let inside = c.self.inside in
    let same = same_length inside.deferrals.items inside.routines.items c.self.invariant.0 in
    let is = length_with_routines inside.deferrals.items inside.routines.items same in
    let view = ap (λ v. length v.writes) c.self.view_is in
    omega (arith, inside.deferrals.ok.0, same, is, view, c.self.invariant.1, c.requires.room)

pub insert_reserved-requires-2-clause-room : goal.insert_reserved-requires-2-clause-room
insert_reserved-requires-2-clause-room g c =
    let inside = c.self.inside in
    let same = same_length inside.deferrals.items inside.routines.items c.self.invariant.0 in
    let is = length_with_routines inside.deferrals.items inside.routines.items same in
    let view = ap (λ v. length v.writes) c.self.view_is in
    omega (arith, inside.routines.ok.0, same, is, view, c.self.invariant.2, c.requires.room)

pub returns-clause-writes : goal.returns-clause-writes
returns-clause-writes g c =
    let inside = c.self.inside in
    writes_defer inside.deferrals.items c.insert_reserved.new.items.items inside.routines.items c.insert_reserved-2.new.items.items c.args.self.now.writes c.place_of-place.result c.len.result c.args.retrying
    (record { id = inside.count + 1; file = c.args.file; pages = c.args.pages }) (inside.count + 1, c.args.routine)
    (ap (λ v. v.writes) c.self.view_is) c.self.invariant.0 (omega (arith, c.len.ensures, inside.deferrals.ok.0)) c.place_of-place.ensures c.insert_reserved.ensures.items c.insert_reserved-2.ensures.items

pub returns-clause-stands : goal.returns-clause-stands
returns-clause-stands g c past pass stood =
    let now = c.args.self.now in
    stands_defer now.writes _ now.count c.self.inside.count (record { id = c.self.inside.count + 1; file = c.args.file; pages = c.args.pages }) c.args.routine c.args.retrying past pass
    (ap (λ v. v.count) c.self.view_is) (returns-clause-writes g c) stood

pub returns-clause-unposted : goal.returns-clause-unposted
returns-clause-unposted g c =
    unposted_defer g.Q.PostRoutine.posted c.args.self.now.writes _ (record { id = c.self.inside.count + 1; file = c.args.file; pages = c.args.pages }) c.args.routine c.args.retrying (returns-clause-writes g c)
