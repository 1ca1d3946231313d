use Rattle.cc_images.proofs.GrownPlaces.{others-written}
use Rattle.cc_images.proofs.grown.write.Goals as goal

pub returns-in-None-clause-bytes : goal.returns-in-None-clause-bytes
returns-in-None-clause-bytes c =
    others-written c.args.bytes.now.items c.args.page c.args.low c.args.valid
    (c.place_of.ensures.none c.in-None.is)
