use Rattle.std.proofs.Common.{sym, subst}
use Rattle.cc_images.specs.Images.{Images, ImagesStand}
use Rattle.cc_images.proofs.Standing.{stands-began}
use Rattle.cc_images.proofs.images.Images.began_reserved.Goals as goal

pub returns : goal.returns
returns c = λ h pass page stands valid.
    let was = subst (λ (i : Images). ImagesStand h i) (sym c.self.view_is) stands in
    stands-began pass page h _ c.args.valid valid (rw (← c.self.view_is) at c.requires.room) was
