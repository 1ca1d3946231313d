use Rattle.std.proofs.Common.{◌∙◌}
use Rattle.cc_model.specs.Objects.{objects}
use Rattle.cc_model.specs.Touches.{size_of}
use Rattle.cc_stream.proofs.Flags.{cut_of-is}
use Rattle.cc_stream.proofs.stream.StreamState.truncation.Goals as goal

pub returns : goal.returns
returns c = λ h stands. c.cut.ensures ∙ cut_of-is c.args.self.now c.args.object c.args.truncate (objects h) (size_of h) stands.opened stands.size
