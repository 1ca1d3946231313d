use Rattle.std.proofs.Common.{◌≡◌, min, sym, subst, ap, ◌∙◌, rules}
use Rattle.cc_images.specs.Images.{Images}
use Rattle.cc_images.specs.Following.{MayOpen}
use Rattle.cc_images.proofs.DoneSteps.{stands-opened}
use Rattle.cc_images.proofs.images.Images.opened.Goals as goal

pub returns-clause-stands : goal.returns-clause-stands
returns-clause-stands c = λ u past pass nth s file sizes quota temporary reply may valid room.
    let was = subst (λ (i : Images). MayOpen u past pass nth s file sizes quota temporary reply i) (sym c.self.view_is) may in
    let least : c.min-self-inside.result ≡ min c.self.inside.begun c.args.valid = search rules in
    rw c.room.invariant
    (stands-opened was c.min-self-inside.result _ (least ∙ ap (min c.self.inside.begun) (sym valid)) (rw (← c.room.view_is) at room))
