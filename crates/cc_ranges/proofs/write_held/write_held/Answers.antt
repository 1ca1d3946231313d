-- A page for which room was made is written as a page that is ready; a write that failed before is turned away.
use Rattle.std.specs.Prelude.{Result}
use Rattle.std.proofs.Common.{subst, inl}
use Rattle.cc_entry.specs.declared.call.Call.TheVariants as call
use Rattle.cc_entry.specs.declared.error.CcError.{CcError}
use Rattle.cc_writes.specs.Calls.{IsFullWriting}
use Rattle.cc_ranges.specs.WriteHeld.{RoomLeft}
use Rattle.cc_ranges.proofs.TidyEnds.{tidy-went}
use Rattle.cc_ranges.proofs.WriteHolding.{begins-writing, ready-left, turned-left}
use Rattle.cc_ranges.proofs.write_held.write_held.Goals as goal
use Rattle.cc_ranges.specs.ReadVisits.{file_page}

pub returns-in-Ok-clause-left : goal.returns-in-Ok-clause-left
returns-in-Ok-clause-left g c begun is =
    let w = g.T.Turns.standing c.args.turns.now in
    let x = g.T.Turns.standing c.make_room-book.new.turns in
    ready-left w x c.args.file c.args.page c.args.bytes.now c.write_ready.result.1 begun (g.T.Turns.standing c.write_ready.new.turns).seen c.make_room-book.ensures.went
    (subst (λ (r : Result (Unit {0}) CcError). RoomLeft w.setup w.number c.args.file c.args.page r begun x.seen) c.in-Ok.is (c.make_room-book.ensures.left begun is))
    c.write_ready.ensures.left

pub returns-in-Err-clause-left : goal.returns-in-Err-clause-left
returns-in-Err-clause-left g c begun is =
    let w = g.T.Turns.standing c.args.turns.now in
    let x = g.T.Turns.standing c.make_room-book.new.turns in
    turned-left w.setup w.number c.args.file c.args.page c.args.bytes.now c.in-Err.error begun x.seen
    (subst (λ (r : Result (Unit {0}) CcError). RoomLeft w.setup w.number c.args.file c.args.page r begun x.seen) c.in-Err.is (c.make_room-book.ensures.left begun is))

pub returns-in-Ok-clause-tidy : goal.returns-in-Ok-clause-tidy
returns-in-Ok-clause-tidy g c =
    let w = g.T.Turns.standing c.args.turns.now in
    let x = g.T.Turns.standing c.make_room-book.new.turns in
    let way = subst (λ (r : Result (Unit {0}) CcError). RoomLeft w.setup w.number c.args.file c.args.page r w.seen x.seen) c.in-Ok.is (c.make_room-book.ensures.left w.seen (begins-writing w.number c.args.file c.args.page w.seen)) in
    tidy-went w.in_flight w x c.args.file (file_page c.args.file c.args.page) c.write_ready.result.1 (g.T.Turns.standing c.write_ready.new.turns).seen c.make_room-book.ensures.went
    (way.way.during, way.way.grew) c.write_ready.ensures.tidy

pub returns-in-Err-clause-full : goal.returns-in-Err-clause-full
returns-in-Err-clause-full g c =
    inl (subst (λ (r : Result (Unit {0}) CcError). IsFullWriting (call.NcWrite c.args.file c.args.page) (g.T.Turns.standing c.make_room-book.new.turns) r) c.in-Err.is c.make_room-book.ensures.full)
