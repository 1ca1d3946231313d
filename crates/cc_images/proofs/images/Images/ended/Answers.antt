-- A good end makes the image known from what began; any other forgets it. For both a place was made at the begin.
use Rattle.std.proofs.Common.{◌≡◌, inl, inr, false, ap, sym, subst}
use Rattle.cc_images.specs.Images.{Images}
use Rattle.cc_images.specs.Following.{MayEndTransfer}
use Rattle.cc_model.specs.Sizes.{ended_ok}
use Rattle.cc_images.proofs.EndSteps.{room-may, good-may, failed-may}
use Rattle.cc_images.proofs.images.Images.ended.Goals as goal

pub insert-requires : goal.insert-requires
insert-requires c =
    let k = c.requires.may in
    record { room = room-may (subst (λ (i : Images). MayEndTransfer k.u k.past k.pass (record { stream = k.s; page = c.args.page }) c.args.how i c.args.valid) (sym c.self.view_is) k.may) }

pub remove-requires : goal.remove-requires
remove-requires c =
    let k = c.requires.may in
    record { room = room-may (subst (λ (i : Images). MayEndTransfer k.u k.past k.pass (record { stream = k.s; page = c.args.page }) c.args.how i c.args.valid) (sym c.self.view_is) k.may) }

pub write-requires : goal.write-requires
write-requires c =
    let k = c.requires.may in
    (subst (λ (i : Images). MayEndTransfer k.u k.past k.pass (record { stream = k.s; page = c.args.page }) c.args.how i c.args.valid) (sym c.self.view_is) k.may).stands.in_order

pub returns-in-Good : goal.returns-in-Good
returns-in-Good c = λ u past pass s may.
    let was = subst (λ (i : Images). MayEndTransfer u past pass (record { stream = s; page = c.args.page }) c.args.how i c.args.valid) (sym c.self.view_is) may in
    rw (c.write.ensures.bytes, c.write.ensures.capacity) (good-may was (ap ended_ok c.in-Good.is) c.remove.new.self c.remove.ensures.has)

pub returns-in-Failed : goal.returns-in-Failed
returns-in-Failed c = λ u past pass s may.
    let was = subst (λ (i : Images). MayEndTransfer u past pass (record { stream = s; page = c.args.page }) c.args.how i c.args.valid) (sym c.self.view_is) may in
    let failed : ended_ok c.args.how ≡ false = elim c.in-Failed.is [ inl is ↦ ap ended_ok is | inr is ↦ ap ended_ok is ] in
    failed-may was failed c.insert.new.self c.insert.ensures.has
