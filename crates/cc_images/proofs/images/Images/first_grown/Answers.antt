use Rattle.std.proofs.Common.{sym, subst, ◌∙◌}
use Rattle.cc_images.specs.Images.{Images, ImagesStand}
use Rattle.cc_images.proofs.Found.{grown-found}
use Rattle.cc_images.proofs.images.Images.first_grown.Goals as goal

pub returns : goal.returns
returns c = λ h stands.
    let was = subst (λ (i : Images). ImagesStand h i) (sym c.self.view_is) stands in
    c.first_in.ensures
    ∙ grown-found h _ c.args.span was
