use Rattle.std.proofs.Common.{sym, subst}
use Rattle.cc_images.specs.Images.{Images, ImagesStand}
use Rattle.cc_images.proofs.Standing.{stands-reserved}
use Rattle.cc_images.proofs.images.Images.reserve.Goals as goal

pub returns-clause-stands : goal.returns-clause-stands
returns-clause-stands c = λ h stands.
    stands-reserved h _ c.reserve.new.self c.reserve.ensures.has c.reserve.ensures.ranges c.reserve.ensures.more
    (subst (λ (i : Images). ImagesStand h i) (sym c.self.view_is) stands)
