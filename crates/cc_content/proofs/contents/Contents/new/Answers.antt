use Rattle.std.proofs.Common.{refl}
use Rattle.cc_model.specs.Objects.{objects}
use Rattle.cc_model.specs.Touches.{sizes, touched}
use Rattle.cc_content.proofs.contents.Contents.new.Goals as goal

pub returns : goal.returns
unfolding objects sizes touched
returns c = λ opening. record { valid_is = refl; map_is = refl }
