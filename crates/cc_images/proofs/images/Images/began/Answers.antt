use Rattle.cc_images.proofs.images.Images.began.Goals as goal

pub returns-clause-stands : goal.returns-clause-stands
returns-clause-stands c = λ h pass page stands valid. c.began_reserved.ensures h pass page (c.reserve.ensures.stands h stands) valid
