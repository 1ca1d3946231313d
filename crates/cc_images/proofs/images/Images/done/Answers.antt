-- By how the valid data length moves: a rise makes pages grow, a fall takes growth back, and else nothing changes.
use Rattle.std.proofs.Common.{sym, subst, arith, rules}
use Rattle.cc_images.specs.Images.{Images}
use Rattle.cc_images.specs.Following.{MayFollowImages}
use Rattle.cc_images.proofs.DoneSteps.{room-may, below-may, raised-may, fallen-may, same-may}
use Rattle.cc_images.proofs.images.Images.done.Goals as goal

pub raise-requires-clause-room : goal.raise-requires-clause-room
raise-requires-clause-room c =
    let k = c.requires.may in
    room-may (subst (λ (i : Images). MayFollowImages k.u k.past k.pass k.nth k.s k.call k.reply i c.args.was c.args.now) (sym c.self.view_is) k.may) c.if-was-now.true

pub returns-then-was-now-clause-stands : goal.returns-then-was-now-clause-stands
returns-then-was-now-clause-stands c = λ u past pass nth s call reply may.
    let was = subst (λ (i : Images). MayFollowImages u past pass nth s call reply i c.args.was c.args.now) (sym c.self.view_is) may in
    rw c.raise.ensures.bytes (raised-may was c.if-was-now.true _ c.raise.ensures.capacity)

pub returns-then-now-was-clause-stands : goal.returns-then-now-was-clause-stands
returns-then-now-was-clause-stands c = λ u past pass nth s call reply may.
    let was = subst (λ (i : Images). MayFollowImages u past pass nth s call reply i c.args.was c.args.now) (sym c.self.view_is) may in
    rw (c.lower.ensures.bytes, c.lower.ensures.capacity) (fallen-may was (omega arith) c.min-self-inside.result (search rules))

pub returns-else-now-was-clause-stands : goal.returns-else-now-was-clause-stands
returns-else-now-was-clause-stands c = λ u past pass nth s call reply may. same-may may (omega arith)

pub raise-requires-clause-below : goal.raise-requires-clause-below
raise-requires-clause-below c =
    let k = c.requires.may in
    below-may (subst (λ (i : Images). MayFollowImages k.u k.past k.pass k.nth k.s k.call k.reply i c.args.was c.args.now) (sym c.self.view_is) k.may)
