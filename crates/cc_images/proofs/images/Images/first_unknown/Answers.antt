use Rattle.std.proofs.Common.{sym, subst, ◌∙◌}
use Rattle.cc_images.specs.Images.{Images, ImagesStand}
use Rattle.cc_images.proofs.Found.{unknown-found}
use Rattle.cc_images.proofs.images.Images.first_unknown.Goals as goal

pub returns : goal.returns
returns c = λ h stands dirty.
    let was = subst (λ (i : Images). ImagesStand h i) (sym c.self.view_is) stands in
    c.first_of.ensures
    ∙ unknown-found h _ c.args.stream c.args.dirty.now c.args.span was dirty
