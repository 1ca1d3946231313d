-- Whether the object is open is what the book tells, which stands for the past.
use Rattle.std.specs.Prelude.{refl}
use Rattle.std.proofs.Common.{◌∙◌, arith}
use Rattle.cc_calls.proofs.Throttling.{open-as, place-reserved}
use Rattle.cc_calls.proofs.throttle.reserve_deferral.Goals as goal

pub returns-then-not-is_open : goal.returns-then-not-is_open
returns-then-not-is_open g c = (
  (
    omega (arith, c.room.ensures, c.if-room-eq0.false),
    open-as c.args.journal.now.entries c.args.book.now c.args.file c.object.result c.is_open.result c.requires.stream c.object.ensures.same c.requires.book c.is_open.ensures
        ∙ c.if-not-is_open.true,
  ),
  refl,
)

pub returns-then-queued-ge64 : goal.returns-then-queued-ge64
returns-then-queued-ge64 g c = (
  (
    omega (arith, c.room.ensures, c.if-room-eq0.false),
    open-as c.args.journal.now.entries c.args.book.now c.args.file c.object.result c.is_open.result c.requires.stream c.object.ensures.same c.requires.book c.is_open.ensures
        ∙ c.if-not-is_open.false,
    omega (arith, c.queued.ensures.queue, c.if-queued-ge64.true),
  ),
  refl,
)

pub returns : goal.returns
returns g c =
    place-reserved c.args.file c.args.journal.now c.reserve.new.self c.reserve.result
    (open-as c.args.journal.now.entries c.args.book.now c.args.file c.object.result c.is_open.result c.requires.stream c.object.ensures.same c.requires.book c.is_open.ensures
    ∙ c.if-not-is_open.false)
    (omega (arith, c.queued.ensures.queue, c.if-queued-ge64.false)) c.reserve.ensures.full c.reserve.ensures.causes c.reserve.ensures.reserved c.reserve.ensures.err
